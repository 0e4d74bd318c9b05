-- The server takes a DROPPED: of the client's leases in the volume it keeps what the DROPPED leaves, and it forgets the mark and the offer.
use Rattle.std.specs.Prelude.{ℕ, ◌<◌, true, not, ◌&&◌, List, ◌≡◌, eqb, length, get_or}
use Rattle.std.proofs.Common.{arith, ap, ◌∙◌}
use Rattle.std.proofs.Math.Decide.{ℕ_discrete}
use Rattle.std.proofs.Math.Bool.{false}
use Rattle.std.proofs.Math.Logic.{inl, inr, ⊎_elim}
use Rattle.std.proofs.Math.Path.{refl, sym}
use borrow.Author.Tests.{eqb-true, eqb-false, eq-eqb, not-true}
use Rattle.laws.specs.Choice.{same?, not_both, and-true}
use Rattle.laws.specs.Store.{store_each, store_hit, store_other}
use Rattle.protocol.specs.declared.message.Kind.TheVariants.{Renew, Grant, Invalidate, Ack, Offer, Dropped, Batch, Cleared}
use Rattle.laws.specs.Sets.{removed}
use Rattle.protocol.specs.declared.setup.Setup.{Setup}
use Rattle.protocol.specs.declared.tables.Tables.{Tables}
use Rattle.protocol.specs.Setup.{volume_of}
use Rattle.protocol.specs.Tables.{by_volume, by_object, epoch_at, session_expiry_at, unreachable_at, offer_at, lease_at, awaited_at, waiting_at}
use Rattle.protocol.specs.Server.{drop_taken, of_volume, disowned, dropped}
use Rattle.protocol.specs.World.{World}
use Rattle.protocol.specs.Ranges.{Ranges}
use Rattle.protocol.specs.Soundness.Shape.{Shape}
use Rattle.protocol.specs.Safety.View.{left, View}
use Rattle.protocol.specs.Safety.Invariant.{Inv, excuses_of, view_in, AnswersIn, KindOk, CoveredIn}
use Rattle.protocol.specs.Safety.Stores.{After}
use Rattle.protocol.proofs.Safety.Stores.{at_place, off_place, volume_set, objects_set, object_fits, client_removed}
use Rattle.protocol.proofs.Safety.Tools.{zero_dead, left_below, marked_excused, noted_excused, excused_grows}
use Rattle.protocol.specs.Safety.Replaced.{with_tables}
use Rattle.protocol.proofs.Safety.Covering.{covered_by, remains_by, covered_left, covered_older}
use Rattle.protocol.specs.Safety.Sending.{Keeps}
use Rattle.protocol.proofs.Safety.Sending.{each}

pub drop_taken_law : (t : Tables) (d v n e : ℕ) → drop_taken t d v n e ≡ true → AnswersIn t d v n e
unfolding drop_taken
drop_taken_law t d v n e h =
    let a = and-true (eqb e (epoch_at t v)) (not (eqb n 0) && eqb n (offer_at t d v)) h in
    let b = and-true (not (eqb n 0)) (eqb n (offer_at t d v)) a.1 in
    record { current = eqb-true _ _ a.0; nonzero = eqb-false _ _ (not-true _ b.0); same = sym (eqb-true _ _ b.1) }

-- ---- DROPPED of client d, taken
module _ (s : Setup) (range : Ranges s) (w : World) (inv : Inv s w) (shape : Shape w.tables) (d v n e : ℕ) (hd : d < s.clients) (ok : KindOk s w d (Dropped v n e)) (answers : AnswersIn w.tables d v n e) where
  abbrev t : Tables
  t = dropped s w.tables d v

  hv : v < s.volumes
  hv = ok.exists

  -- a field per client and object, stored for the volume's objects
  at_object : {A : Type 0} (l : List A) (x y : A) → length l ≡ 512 → (k i : ℕ) → i < s.objects
      → After d v k (volume_of s i) (get_or (store_each (of_volume s v) (by_object d) (λ (o : ℕ). x) l s.objects) (by_object k i) y) x (get_or l (by_object k i) y)
  at_object l x y full k i h =
      ⊎_elim (λ a. inl (a.0, eqb-true _ _ a.1, a.2)) (λ a. inr (λ p q. a.0 p (eq-eqb _ _ q), a.1)) (objects_set range hd (of_volume s v) l x y full k i h)

  -- after a DROPPED the server's lease is what is left of it
  at_lease : (k i : ℕ) → i < s.objects → After d v k (volume_of s i) (lease_at t k i) (left (lease_at w.tables k i)) (lease_at w.tables k i)
  unfolding dropped disowned left
  at_lease k i h = at_object w.tables.holders.lease 0 0 shape.holders.lease k i h

  -- no write of the volume waits for it any more
  awaited_here : (i : ℕ) → i < s.objects → volume_of s i ≡ v → awaited_at t i ≡ removed (awaited_at w.tables i) d
  unfolding dropped disowned
  awaited_here i h q =
      let l = shape.holders.waiting in
      let f = object_fits range h in
      store_hit (of_volume s v) (λ (o : ℕ). o) (λ (o : ℕ). removed (awaited_at w.tables o) d) (λ a b z. z) w.tables.holders.waiting s.objects i 0 h (eq-eqb _ _ q) (omega arith)

  awaited_still : (i : ℕ) → (volume_of s i ≡ v → ⊥) → awaited_at t i ≡ awaited_at w.tables i
  unfolding dropped disowned
  awaited_still i ne =
      store_other (of_volume s v) (λ (o : ℕ). o) (λ (o : ℕ). removed (awaited_at w.tables o) d) w.tables.holders.waiting s.objects i 0
      (λ j g c z. ne (sym (ap (volume_of s) z) ∙ eqb-true _ _ c))

  at_waiting : (k i : ℕ) → k < s.clients → i < s.objects → After d v k (volume_of s i) (waiting_at t k i) false (waiting_at w.tables k i)
  at_waiting k i hk h =
      ⊎_elim
      (λ q. ⊎_elim (λ b. inl (b.0, q, rw (awaited_here i h q) b.1)) (λ b. inr (λ p r. b.0 p, rw (awaited_here i h q) b.1)) (client_removed range (awaited_at w.tables i) d k hk))
      (λ q. inr (λ p r. q r, rw (awaited_still i q))) (same? (volume_of s i) v)

  at_session : (k u : ℕ) → u < s.volumes → After d v k u (session_expiry_at t k u) 0 (session_expiry_at w.tables k u)
  unfolding dropped
  at_session k u h = volume_set range hd hv w.tables.sessions.expiry 0 0 shape.sessions.expiry k u h

  at_un : (k u : ℕ) → u < s.volumes → After d v k u (unreachable_at t k u) false (unreachable_at w.tables k u)
  unfolding dropped
  at_un k u h = volume_set range hd hv w.tables.sessions.unreachable false false shape.sessions.unreachable k u h

  at_offer : (k u : ℕ) → u < s.volumes → After d v k u (offer_at t k u) 0 (offer_at w.tables k u)
  unfolding dropped
  at_offer k u h = volume_set range hd hv w.tables.sessions.offer 0 0 shape.sessions.offer k u h

  -- elsewhere no lease changes, and nobody is counted on more
  same_lease : (k i : ℕ) → i < s.objects → (k ≡ d → volume_of s i ≡ v → ⊥) → lease_at t k i ≡ lease_at w.tables k i
  same_lease k i h ne = off_place (at_lease k i h) ne

  excused_still : (k u i : ℕ) → u < s.volumes → (k ≡ d → u ≡ v → ⊥) → excuses_of w.tables k u i ≡ true → excuses_of t k u i ≡ true
  unfolding dropped
  excused_still k u i h ne = excused_grows _ _ k u i _ _ (λ a. marked_excused _ _ k u i (off_place (at_un k u h) ne ∙ a)) (noted_excused _ _ k u i)

  -- another client, or another volume, is covered as it was
  elsewhere : (k u : ℕ) (view : View) → u < s.volumes → (k ≡ d → u ≡ v → ⊥) → CoveredIn s w.tables k u view → CoveredIn s t k u view
  unfolding dropped
  elsewhere k u view h ne c =
      covered_by c (omega (arith, off_place (at_session k u h) ne)) (λ i a. excused_still k u i h ne)
      (λ i a. omega (arith, same_lease k i a.exists (λ p q. ne p (sym a.inside ∙ q))))

  -- the client that dropped its leases: of this epoch it needs what is left, and of an older one the guard covers it
  here : CoveredIn s t d v (view_in s w d v)
  unfolding dropped
  here = go (ℕ_discrete (get_or w.tables.views.epoch (by_volume d v) 0) (epoch_at w.tables v))
    where
      go : Dec (get_or w.tables.views.epoch (by_volume d v) 0 ≡ epoch_at w.tables v) → CoveredIn s t d v (view_in s w d v)
      go (yes q) = covered_left (ok.remains answers q) (λ i a. at_place (at_lease d i a.exists) refl a.inside)
      go (no q) = covered_older q (inv.views d v hd hv)

  -- whatever else answers an offer answers another one
  answered : (k u n' f : ℕ) → u < s.volumes → AnswersIn t k u n' f → AnswersIn w.tables k u n' f × (k ≡ d → u ≡ v → ⊥)
  unfolding dropped
  answered k u n' f h a =
      ⊎_elim (λ q. absurd (a.nonzero (sym a.same ∙ q.2)))
      (λ q. (record { current = a.current; nonzero = a.nonzero; same = sym q.1 ∙ a.same }, q.0)) (at_offer k u h)

  keeps : Keeps s w (with_tables w t)
  unfolding dropped
  keeps k (Renew i n' f ver) z hk c = c
  keeps k (Grant i n' x f ver y p) z hk c =
      let hu = range.within i c.exists in
      record {
        exists = c.exists;
        header = c.header;
        reached = c.reached;
        payload = c.payload;
        object = c.object;
        unoffered = λ a b. (⊎_elim (λ q. q.2) (λ q. q.1 ∙ (c.unoffered a b).0) (at_offer k (volume_of s i) hu), (c.unoffered a b).1);
        held = c.held;
        covered = λ a. ⊎_elim (λ q. covered_older (λ b. offered k (volume_of s i) q.0 q.1 (c.unoffered a b).0) (c.covered a)) (λ q. elsewhere k (volume_of s i) _ hu q.0 (c.covered a))
            (at_session k (volume_of s i) hu);
      }
    where
      offered : (k u : ℕ) → k ≡ d → u ≡ v → offer_at w.tables k u ≡ 0 → ⊥
      offered k u p q a = answers.nonzero (sym answers.same ∙ rw (p, q) at a)
  keeps k (Invalidate i f ver) z hk c = c
  keeps k (Ack i f ver) z hk c = c
  keeps k (Offer u n' f) z hk c = c
  keeps k (Dropped u n' f) z hk c = record {
    exists = c.exists;
    header = c.header;
    writes = λ a i h q b. let l = answered k u n' f c.exists a in rw (same_lease k i h (λ p r. l.1 p (sym q ∙ r))) (c.writes l.0 i h q b);
    remains = λ a b. let l = answered k u n' f c.exists a in remains_by (c.remains l.0 b) (λ i h. omega (arith, same_lease k i h.exists (λ p r. l.1 p (sym h.inside ∙ r))));
  }
  keeps k (Batch u n' f m) z hk c = c
  keeps k (Cleared u n' f m) z hk c = c

  pub dropped_keeps : Inv s (with_tables w t)
  unfolding dropped
  dropped_keeps = record {
    bounds = record {
      guards = inv.bounds.guards;
      volumes = inv.bounds.volumes;
      sessions = λ k u hk h. ⊎_elim (λ a. rw a.2 (omega arith)) (λ a. rw a.1 (inv.bounds.sessions k u hk h)) (at_session k u h);
      objects = inv.bounds.objects;
      leases = λ k i hk h. let b = inv.bounds.leases k i hk h in let l = left_below (lease_at w.tables k i) in ⊎_elim (λ a. omega (arith, a.2)) (λ a. omega (arith, a.1)) (at_lease k i h);
    };
    epochs = inv.epochs;
    numbers = inv.numbers;
    versions = inv.versions;
    offers = λ k u hk h ne. ⊎_elim (λ a. absurd (ne a.2)) (λ a. off_place (at_un k u h) a.0 ∙ inv.offers k u hk h (λ z. ne (a.1 ∙ z))) (at_offer k u h);
    batches = λ k u hk h ne. let b = inv.batches k u hk h ne in (b.0, ⊎_elim (λ a. a.2) (λ a. a.1 ∙ b.1) (at_un k u h));
    writes = record {
      guards = inv.writes.guards;
      waits = λ k i hk h a b. ⊎_elim (λ q. not_both b q.2)
          (λ q. rw (same_lease k i h q.0, off_place (at_session k (volume_of s i) (range.within i h)) q.0) (inv.writes.waits k i hk h a (sym q.1 ∙ b))) (at_waiting k i hk h);
      others = λ k i hk h a b. ⊎_elim (λ q. inl (rw (q.2, q.0, ok.writes answers i h q.1 a) (zero_dead w.tables.clock)))
          (λ q. rw (q.1, off_place (at_session k (volume_of s i) (range.within i h)) q.0)
          (⊎_elim inl (λ r. inr (r.0, excused_still k (volume_of s i) i (range.within i h) q.0 r.1)) (inv.writes.others k i hk h a (sym (off_place (at_waiting k i hk h) q.0) ∙ b))))
          (at_lease k i h);
    };
    views = λ k u hk h. ⊎_elim (λ a. rw (a.0, a.1) here) (λ a. elsewhere k u _ h a.0 (inv.views k u hk h)) (at_session k u h);
    messages = each inv keeps;
    pairs = inv.pairs;
  }
