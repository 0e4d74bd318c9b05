-- The server receives a RENEW, by whichever rule.
use Rattle.std.specs.Prelude.{ℕ, ◌<◌, ◌≤◌, true, false, not, ◌&&◌, ◌≡◌, ltb, eqb}
use native.Mathlib.Omega.{arith}
use Rattle.std.proofs.Math.Logic.{inr, ⊎_elim}
use Rattle.std.proofs.Math.Seq.{get_or-set_same}
use borrow.Author.Tests.{ltb-true, ltb-false, leb-false, eqb-true, eqb-false, not-true, not-false, eq-eqb}
use Rattle.laws.specs.Choice.{not_both, cond_keeps, and-true, and-false, or_false}
use Rattle.laws.specs.Loop.{first_found, first_missing}
use Rattle.protocol.specs.declared.message.Kind.TheVariants.{Renew}
use Rattle.protocol.specs.declared.setup.Setup.{Setup}
use Rattle.protocol.specs.declared.tables.Tables.{Tables}
use Rattle.protocol.specs.Setup.{volume_of}
use Rattle.protocol.specs.Tables.{epoch_at, seen_at, unreachable_at, standing_at, waiting_at, with_sessions}
use Rattle.protocol.specs.Writes.{marked, invalidation}
use Rattle.protocol.specs.Server.{sent, noted, offered, offering, waited_in, lowest_waited, must_drop, has_notes, batched, batching, granted, renewed_by, renewed, stale, being_written}
use Rattle.protocol.specs.World.{World}
use Rattle.protocol.specs.Ranges.{Ranges}
use Rattle.protocol.proofs.Soundness.ShapeKept.{noted_shape}
use Rattle.protocol.specs.Soundness.Shape.{Shape}
use Rattle.protocol.specs.Safety.Invariant.{Inv, KindOk}
use Rattle.protocol.proofs.Safety.Stores.{client_fits}
use Rattle.protocol.proofs.Safety.Tools.{unmarked_trusted}
use Rattle.protocol.specs.Safety.Replaced.{with_tables}
use Rattle.protocol.proofs.Safety.Marks.{doubts_keep, marked_there, marked_doubts}
use Rattle.protocol.proofs.Safety.Sending.{send_single}
use Rattle.protocol.proofs.Safety.Noting.{noted_keeps, offer_keeps, batch_keeps}
use Rattle.protocol.proofs.Safety.Leasing.{granted_keeps}

module _ (s : Setup) (range : Ranges s) (w : World) (inv : Inv s w) (shape : Shape w.tables) (d o n e ver : ℕ) (hd : d < s.clients) (renew : KindOk s w d (Renew o n e ver))
    (new : seen_at w.tables d < n) where
  abbrev v : ℕ
  v = volume_of s o

  ho : o < s.objects
  ho = renew.exists

  hv : v < s.volumes
  hv = range.within o renew.exists

  abbrev t : Tables
  t = noted w.tables d n

  noticed : Inv s (with_tables w t)
  noticed = noted_keeps s w inv d n shape.sessions.seen (client_fits range hd) new renew.taken

  seen_now : n ≤ seen_at t d
  unfolding noted
  seen_now = let q = get_or-set_same w.tables.sessions.seen d n 0 (let l = shape.sessions.seen in let b = range.clients.1 in omega arith) in omega arith

  -- "mark unreachable, offer number := number, send OFFER"
  marks : Inv s (with_tables w (with_sessions w.tables (marked w.tables.sessions d v)))
  marks = doubts_keep s range w _ (marked_doubts s range w.tables.sessions shape.sessions d v hd hv) inv

  offers : Inv s (with_tables w (offered t d v n))
  unfolding offered noted
  offers =
      noted_keeps s _
      (offer_keeps s range _ marks d v n shape.sessions.offer hd hv (marked_there s range w.tables.sessions shape.sessions d v hd hv) new renew.taken)
      d n shape.sessions.seen (client_fits range hd) new renew.taken

  by_offer : Inv s (with_tables w (sent (offered t d v n) (offering t d v n)))
  unfolding offered noted
  by_offer =
      send_single s (with_tables w (offered t d v n)) offers (offering t d v n) shape.queue.items
      (record { client = hd; kind = record { exists = hv; header = record { reached = omega arith; taken = renew.taken; noticed = λ a. seen_now } } })
      (λ i a. a) (λ k i b. b)

  -- "answered by BATCH (kind 7) with number, epoch and the noted set"
  by_batch : must_drop t d v e ≡ false → has_notes t d v ≡ true → Inv s (with_tables w (sent (batched t d v n) (batching t d v n)))
  unfolding noted must_drop batched
  by_batch keep has =
      let a = or_false (not (eqb e (epoch_at t v))) (unreachable_at t d v) keep in
      send_single s (with_tables w (batched t d v n))
      (noted_keeps s _
      (batch_keeps s range w inv d v n shape.sessions.batch hd hv a.1 (eqb-false _ _ (not-true _ has)) new renew.taken)
      d n shape.sessions.seen (client_fits range hd) new renew.taken)
      (batching t d v n) shape.queue.items
      (record { client = hd; kind = record { exists = hv; header = record { reached = omega arith; taken = renew.taken; noticed = λ a. seen_now } } })
      (λ i a. a) (λ k i b. b)

  -- "its lowest such object": past the objects, nothing that is being written in the volume waits for the client
  abbrev low : ℕ
  low = lowest_waited s t d v

  unwaited : ltb low s.objects ≡ false → (i : ℕ) → i < s.objects → volume_of s i ≡ v → standing_at t i ≡ true → waiting_at t d i ≡ false
  unfolding lowest_waited
  unwaited none i h q a =
      let r = first_missing (waited_in s t d v) 0 s.objects (let l = ltb-false low s.objects none in omega arith) i (omega arith) (omega arith) in
      ⊎_elim (λ b. not_both (eq-eqb _ _ q) b) (λ b. ⊎_elim (λ l. not_both a l) (λ l. l) (and-false _ _ b)) (and-false _ _ r)

  -- "resend INVALIDATE"
  by_resend : low < s.objects → Inv s (with_tables w (sent t (invalidation s t low d)))
  unfolding noted lowest_waited
  by_resend h =
      let q = first_found (waited_in s t d v) 0 s.objects (omega arith) in
      let a = (and-true (standing_at t low) (waiting_at t d low) (and-true (eqb (volume_of s low) v) (standing_at t low && waiting_at t d low) q).1).0 in
      send_single s (with_tables w t) noticed (invalidation s t low d) shape.queue.items
      (record { client = hd; kind = record { exists = h; reached = omega arith; recent = λ b. inr (a, omega arith) } })
      (λ i b. b) (λ k i b. b)

  -- "Else .. send GRANT"
  by_grant : must_drop t d v e ≡ false → has_notes t d v ≡ false → ltb low s.objects ≡ false → standing_at t o ≡ false → Inv s (with_tables w (granted s t d o n ver))
  unfolding noted must_drop
  by_grant keep unnoted none free =
      let a = or_false (not (eqb e (epoch_at t v))) (unreachable_at t d v) keep in
      let no_notes = eqb-true _ _ (not-false _ unnoted) in
      granted_keeps s range (with_tables w t) noticed
      (noted_shape w.tables d n shape)
      d o hd ho a.1 no_notes free (λ i h q. unmarked_trusted _ _ d v i a.1 no_notes) (unwaited none) n e ver renew (eqb-true _ _ (not-false _ a.0)) seen_now

  pub renewed_new : Inv s (with_tables w (renewed_by s t d o n e ver))
  unfolding renewed_by
  renewed_new =
      cond_keeps (λ (x : Tables). Inv s (with_tables w x)) (must_drop t d v e) (λ a. by_offer)
      (λ a. cond_keeps (λ (x : Tables). Inv s (with_tables w x)) (has_notes t d v) (by_batch a)
      (λ b. cond_keeps (λ (x : Tables). Inv s (with_tables w x)) (ltb low s.objects) (λ c. by_resend (ltb-true _ _ c))
      (λ c. cond_keeps (λ (x : Tables). Inv s (with_tables w x)) (being_written t o) (λ l. noticed) (λ l. by_grant a b c l))))

-- "number not above the highest seen: nothing"
pub renewed_keeps : (s : Setup) → Ranges s → (w : World) → Inv s w → Shape w.tables → (d o n e ver : ℕ) → d < s.clients → KindOk s w d (Renew o n e ver)
    → Inv s (with_tables w (renewed s w.tables d o n e ver))
unfolding renewed
renewed_keeps s range w inv shape d o n e ver hd renew =
    cond_keeps (λ (x : Tables). Inv s (with_tables w x)) (stale w.tables d n) (λ a. inv) (λ a. renewed_new s range w inv shape d o n e ver hd renew (leb-false _ _ a))
