-- No rule reads the message list: each rule, and each step by its kind, leaves the same whatever list it finds, and what it sends goes to the list's end.
-- Letters: s setup, t tables, q a message list, c a copy, r a request, d client, o object, v volume, T clock, a a value; of a message n number, e epoch, w
-- version, x and y volume and object expiry, p payload, m set; of a step, x is the step.
use Prim.Native.Nat.{ℕ, ◌≤◌, zero, suc, ◌+◌}
use native.Mathlib.Omega.{arith}
use Rattle.std.proofs.Math.Bool.{false, true}
use Rattle.std.specs.Prelude.{Bool, cond, ◌≡◌, ◌∷◌, ltb}
use Rattle.std.proofs.Math.Path.{refl, ap}
use Rattle.std.proofs.Math.ListN.{length}
use Rattle.laws.specs.Loop.{fold_from}
use Rattle.protocol.specs.declared.message.Kind.{Kind}
use Rattle.protocol.specs.declared.message.Kind.TheVariants.{Renew, Grant, Invalidate, Ack, Offer, Dropped, Batch, Cleared}
use Rattle.protocol.specs.declared.records.Copy.{Copy}
use Rattle.protocol.specs.declared.records.Request.{Request}
use Rattle.protocol.specs.declared.setup.Setup.{Setup}
use Rattle.protocol.specs.declared.step.Answer.TheVariants as answer
use Rattle.protocol.specs.declared.step.CopyChange.TheVariants as copy
use Rattle.protocol.specs.declared.step.Sweep.TheVariants as sweep
use Rattle.protocol.specs.declared.step.Turn.TheVariants as request
use Rattle.protocol.specs.declared.tables.Tables.{Tables}
use Rattle.protocol.specs.declared.message.Queue.{Queue}
use Rattle.protocol.specs.Setup.{volume_of}
use Rattle.protocol.specs.Messages.{message, pushed}
use Rattle.protocol.specs.Tables.{with_queue, with_views, waiting_at}
use Rattle.protocol.specs.Writes.{waits, delays, delayed, latest_end, opened, awaited, begun, notified, settled, written, write_staged, clock_set, clock_staged, ready, due, invalidation, completed, posted, released, deserted, waited, notify}
use Rattle.protocol.specs.Server.{noted, offered, offering, has_notes, batched, batching, lowest_waited, volume_renewed, object_renewed, granting, granted, must_drop, being_written, renewed_by, stale, renewed, ack_taken, acked, ack_staged, drop_taken, dropped, disowned, ready_in, drop_staged, clear_taken, notes_dropped, notes_cleared, server_restarted}
use Rattle.protocol.specs.Client.{showable, stands, viewed, grant_stored, renewal}
use Rattle.protocol.specs.Decide.{kept, uncounted, by_server, by_client, answered, counting, grant_received, invalidate_received, offer_received, batch_received, received, read_decided, ask_decided, restart_decided}
use Rattle.protocol.specs.Leases.{guard_passed}
use Rattle.any_network.specs.Framing.{Unread}
use Rattle.any_network.proofs.Framing.{quiet, single, either, choice, then, settling}
use Rattle.any_network.specs.Lists.{push_all}
use Rattle.any_network.specs.Framed.{Sends, recount, rereceive, redecide, invalidations}

-- ---- completing writes
ready_unlisted : (s : Setup) → Unread with_queue s (ready s)
unfolding ready waited guard_passed completed posted released deserted
ready_unlisted s = record { tested = λ t q o. refl; completes = λ t q o. refl }

due_unlisted : (s : Setup) → Unread with_queue s (due s)
unfolding due waited guard_passed completed posted released deserted
due_unlisted s = record { tested = λ t q o. refl; completes = λ t q o. refl }

ready_in_unlisted : (s : Setup) (v : ℕ) → Unread with_queue s (ready_in s v)
unfolding ready waited guard_passed completed posted released deserted
ready_in_unlisted s v = record { tested = λ t q o. refl; completes = λ t q o. refl }

none_unlisted : (s : Setup) → Unread with_queue s (λ t o. false)
unfolding completed posted released deserted
none_unlisted s = record { tested = λ t q o. refl; completes = λ t q o. refl }

-- ---- the INVALIDATEs of a write
module _ (s : Setup) (t : Tables) (o : ℕ) where
  pub notified_all : (q : Queue) (j n : ℕ) → fold_from (notify s t o) q j n ≡ push_all q (invalidations s t o j n)
  unfolding fold_from push_all invalidations
  notified_all q j zero = refl
  notified_all q j (suc n) = by (waiting_at t j o) (λ k. notified_all k (j + 1) n)
    where
      by : (b : Bool) → ((k : Queue) → fold_from (notify s t o) k (j + 1) n ≡ push_all k (invalidations s t o (j + 1) n))
          → fold_from (notify s t o) (cond b (pushed q (invalidation s t o j)) q) (j + 1) n ≡ push_all q (cond b (invalidation s t o j ∷ invalidations s t o (j + 1) n) (invalidations s t o (j + 1) n))
      by true h = h (pushed q (invalidation s t o j))
      by false h = h q

  pub invalidations_few : (j n : ℕ) → length (invalidations s t o j n) ≤ n
  unfolding invalidations
  invalidations_few j zero = omega arith
  invalidations_few j (suc n) = by (waiting_at t j o) (invalidations_few (j + 1) n)
    where
      by : (b : Bool) → length (invalidations s t o (j + 1) n) ≤ n → length (cond b (invalidation s t o j ∷ invalidations s t o (j + 1) n) (invalidations s t o (j + 1) n)) ≤ suc n
      by true h = omega arith
      by false h = omega arith

module _ (s : Setup) (t : Tables) where
  -- ---- the server receives
  renewed_frames : (d o n e w : ℕ) → Sends with_queue (λ q. renewed s (with_queue t q) d o n e w)
  unfolding renewed renewed_by noted offered batched lowest_waited volume_renewed object_renewed granted must_drop
  renewed_frames d o n e w =
      choice (stale t d n) _ _ (quiet t)
      (choice (must_drop (noted t d n) d (volume_of s o) e) _ _ (single (offered (noted t d n) d (volume_of s o) n) (offering t d (volume_of s o) n))
      (choice (has_notes t d (volume_of s o)) _ _ (single (batched (noted t d n) d (volume_of s o) n) (batching t d (volume_of s o) n))
      (choice (ltb (lowest_waited s (noted t d n) d (volume_of s o)) s.objects) _ _ (single (noted t d n) (invalidation s (noted t d n) (lowest_waited s (noted t d n) d (volume_of s o)) d))
      (choice (being_written t o) _ _ (quiet (noted t d n))
      (single (object_renewed s (volume_renewed s (noted t d n) d (volume_of s o)) d o) (granting s (noted t d n) d o n w))))))

  ack_frames : (d o e w : ℕ) → Sends recount (λ q. settled s (ack_staged s (with_queue t q) d o e w))
  unfolding ack_staged ack_taken acked
  ack_frames d o e w =
      either (settled s) (ack_taken s t o e w) _ _
      (settling (ready_unlisted s) o 1 _ (quiet (acked t d o)))
      (settling (none_unlisted s) 0 0 _ (quiet t))

  drop_frames : (d v n e : ℕ) → Sends recount (λ q. settled s (drop_staged s (with_queue t q) d v n e))
  unfolding drop_staged drop_taken dropped disowned
  drop_frames d v n e =
      either (settled s) (drop_taken t d v n e) _ _
      (settling (ready_in_unlisted s v) 0 s.objects _ (quiet (dropped s t d v)))
      (settling (none_unlisted s) 0 0 _ (quiet t))

  clear_frames : (d v n e m : ℕ) → Sends with_queue (λ q. notes_cleared s (with_queue t q) d v n e m)
  unfolding notes_cleared clear_taken notes_dropped
  clear_frames d v n e m = choice (clear_taken t d v n e) _ _ (quiet (notes_dropped s t d v m)) (quiet t)

  -- ---- any message received, by the server or by its client
  pub received_frames : (c : Copy) (r : Request) (d : ℕ) (k : Kind) → Sends rereceive (λ q. received s (with_queue t q) c r d k)
  unfolding received grant_received invalidate_received offer_received batch_received
  received_frames c r d (Renew o n e w) = then (λ (u : Tables). by_server (uncounted u)) (λ u q. refl) _ (renewed_frames d o n e w)
  received_frames c r d (Grant o n x e w y p) =
      choice (stands r n) _ _ (quiet (by_client (grant_stored c w y p) (with_views t (viewed t.views d (volume_of s o) e x)))) (quiet (by_client kept t))
  received_frames c r d (Invalidate o e w) = single (invalidate_received t r d o e w) (message d (Ack o e w))
  received_frames c r d (Ack o e w) = then by_server (λ u q. refl) _ (ack_frames d o e w)
  received_frames c r d (Offer v n e) =
      choice (stands r n) _ _ (single (by_client (record { copy = copy.Keep; request = request.End; sweep = sweep.Expire v }) (with_views t (viewed t.views d v e 0))) (message d (Dropped v n e))) (quiet (by_client kept t))
  received_frames c r d (Dropped v n e) = then by_server (λ u q. refl) _ (drop_frames d v n e)
  received_frames c r d (Batch v n e m) =
      choice (stands r n) _ _ (single (by_client (record { copy = copy.Keep; request = request.End; sweep = sweep.Forget m }) t) (message d (Cleared v n e m))) (quiet (by_client kept t))
  received_frames c r d (Cleared v n e m) = then (λ (u : Tables). by_server (uncounted u)) (λ u q. refl) _ (clear_frames d v n e m)

  -- ---- the steps of one's own
  pub clock_frames : (T : ℕ) → Sends redecide (λ q. counting (settled s (clock_staged s (with_queue t q) T)))
  unfolding clock_set
  clock_frames T = then {put = recount} counting (λ c q. refl) _ (settling (due_unlisted s) 0 s.objects _ (quiet (clock_set s t T)))

  pub read_frames : (c : Copy) (d o : ℕ) → Sends redecide (λ q. read_decided s (with_queue t q) c d o)
  unfolding read_decided showable
  read_frames c d o = choice (showable s t c d o) _ _ (quiet (answered kept t (answer.Shown c.value))) (quiet (answered kept t answer.AskFirst))

  pub ask_frames : (c : Copy) (r : Request) (d o : ℕ) → Sends redecide (λ q. ask_decided s (with_queue t q) c r d o)
  unfolding ask_decided
  ask_frames c r d o = single (ask_decided s t c r d o) (renewal s t c r d o)

  written_frames : (o a : ℕ) → s.clients ≤ 16 → Sends with_queue (λ q. written s (with_queue t q) o a)
  unfolding written notified opened awaited delayed delays waits latest_end
  written_frames o a h = record {
    rest = begun s t o a;
    out = invalidations s (begun s t o a) o 0 s.clients;
    few = let k = invalidations_few s (begun s t o a) o 0 s.clients in omega arith;
    same = λ q. ap (with_queue (begun s t o a)) (notified_all s (begun s t o a) o q 0 s.clients);
  }

  pub write_frames : (o a : ℕ) → s.clients ≤ 16 → Sends redecide (λ q. counting (settled s (write_staged s (with_queue t q) o a)))
  write_frames o a h =
      then {put = recount} counting (λ c q. refl) _
      (settling (ready_unlisted s) o 1 _ (written_frames o a h))

  pub server_frames : Sends redecide (λ q. answered kept (server_restarted s (with_queue t q)) answer.Done)
  unfolding server_restarted
  server_frames = quiet (answered kept (server_restarted s t) answer.Done)

  pub client_frames : (d : ℕ) → Sends redecide (λ q. restart_decided s (with_queue t q) d)
  unfolding restart_decided
  client_frames d = quiet (restart_decided s t d)
