-- The server takes a CLEARED: of its set the client holds nothing, and no GRANT under way can bring it anything, so the notes and leases may go.
use Rattle.std.specs.Prelude.{ℕ, ◌<◌, false, not, ◌&&◌, ◌⊎◌, ◌≡◌, eqb}
use Rattle.std.proofs.Common.{arith, ◌∙◌, eqb-true}
use Rattle.std.proofs.Math.Decide.{ℕ_discrete}
use Rattle.std.proofs.Math.Bool.{true}
use Rattle.std.proofs.Math.Logic.{inl, inr, ⊎_elim}
use Rattle.std.proofs.Math.Path.{sym}
use Rattle.std.proofs.Math.ListN.{get_or}
use Rattle.std.proofs.lemmas.Bool.{eqb-false, not-true}
use Rattle.laws.specs.Choice.{true_or_false, and-true, and_yes}
use Rattle.laws.specs.Sets.{bit_at, less, bit_less}
use Rattle.protocol.specs.declared.message.Kind.TheVariants.{Renew, Grant, Invalidate, Ack, Offer, Dropped, Batch, Cleared}
use Rattle.protocol.specs.declared.setup.Setup.{Setup}
use Rattle.protocol.specs.declared.tables.Tables.{Tables}
use Rattle.protocol.specs.Setup.{volume_of}
use Rattle.protocol.specs.Tables.{by_volume, epoch_at, notes_at, batch_at, lease_at}
use Rattle.protocol.specs.Server.{clear_taken, notes_dropped}
use Rattle.protocol.specs.Sound.{set_sound}
use Rattle.protocol.proofs.SoundLaws.{set_member}
use Rattle.protocol.specs.World.{World}
use Rattle.protocol.specs.Ranges.{Ranges}
use Rattle.protocol.specs.Soundness.Shape.{Shape}
use Rattle.protocol.specs.Safety.View.{View, Held}
use Rattle.protocol.specs.Safety.Invariant.{Inv, excuses_of, clocks_of, view_in, ClearsIn, KindOk, CoveredIn}
use Rattle.protocol.specs.Safety.Stores.{After, AfterEach}
use Rattle.protocol.proofs.Safety.Stores.{off_place, volume_set, objects_set, object_fits}
use Rattle.protocol.proofs.Safety.Tools.{zero_dead, left_none, marked_excused, noted_excused, excused_grows}
use Rattle.protocol.specs.Safety.Replaced.{with_tables}
use Rattle.protocol.proofs.Safety.Covering.{covered_by, remains_by, covered_older}
use Rattle.protocol.specs.Safety.Sending.{Keeps}
use Rattle.protocol.proofs.Safety.Sending.{each}

pub clear_taken_law : (t : Tables) (d v n e : ℕ) → clear_taken t d v n e ≡ true → ClearsIn t d v n e
unfolding clear_taken
clear_taken_law t d v n e h =
    let a = and-true (eqb e (epoch_at t v)) (not (eqb n 0) && eqb n (batch_at t d v)) h in
    let b = and-true (not (eqb n 0)) (eqb n (batch_at t d v)) a.1 in
    record { current = eqb-true _ _ a.0; nonzero = eqb-false _ _ (not-true _ b.0); same = sym (eqb-true _ _ b.1) }

-- ---- CLEARED of client d, taken
module _ (s : Setup) (range : Ranges s) (w : World) (inv : Inv s w) (shape : Shape w.tables) (d v n e m : ℕ) (hd : d < s.clients) (fits : set_sound s v m ≡ true)
    (ok : KindOk s w d (Cleared v n e m)) (clears : ClearsIn w.tables d v n e) where
  abbrev t : Tables
  t = notes_dropped s w.tables d v m

  hv : v < s.volumes
  hv = ok.exists

  -- the set is of the volume's objects
  member : (i : ℕ) → i < s.objects → bit_at m i ≡ true → volume_of s i ≡ v
  member i h b = (set_member s v m i fits (object_fits range h) b).1

  at_lease : (k i : ℕ) → i < s.objects → AfterEach d (bit_at m) k i (lease_at t k i) 0 (lease_at w.tables k i)
  unfolding notes_dropped
  at_lease k i h = objects_set range hd (bit_at m) w.tables.holders.lease 0 0 shape.holders.lease k i h

  at_notes : (k u : ℕ) → u < s.volumes → After d v k u (notes_at t k u) (less (notes_at w.tables d v) m) (notes_at w.tables k u)
  unfolding notes_dropped
  at_notes k u h = volume_set range hd hv w.tables.sessions.notes (less (notes_at w.tables d v) m) 0 shape.sessions.notes k u h

  at_batch : (k u : ℕ) → u < s.volumes → After d v k u (batch_at t k u) 0 (batch_at w.tables k u)
  unfolding notes_dropped
  at_batch k u h = volume_set range hd hv w.tables.sessions.batch 0 0 shape.sessions.batch k u h

  -- what is not of the set is as it was: its lease, and its note
  same_lease : (k i : ℕ) → i < s.objects → (k ≡ d → bit_at m i ≡ true → ⊥) → lease_at t k i ≡ lease_at w.tables k i
  same_lease k i h ne = ⊎_elim (λ a. absurd (ne a.0 a.1)) (λ a. a.1) (at_lease k i h)

  noted_still : (k u i : ℕ) → u < s.volumes → i < s.objects → (k ≡ d → u ≡ v → bit_at m i ≡ true → ⊥) → bit_at (notes_at w.tables k u) i ≡ true → bit_at (notes_at t k u) i ≡ true
  noted_still k u i hu h ne b =
      ⊎_elim (λ a. rw (a.2, bit_less (notes_at w.tables d v) m i (object_fits range h)) (rest a.0 a.1 (true_or_false (bit_at m i)))) (λ a. rw a.1 b) (at_notes k u hu)
    where
      rest : k ≡ d → u ≡ v → (bit_at m i ≡ true) ⊎ (bit_at m i ≡ false) → (bit_at (notes_at w.tables d v) i && not (bit_at m i)) ≡ true
      rest p q (inl c) = absurd (ne p q c)
      rest p q (inr c) = rw c (and_yes _ ∙ rw (p, q) at b)

  excused_still : (k u i : ℕ) → u < s.volumes → i < s.objects → (k ≡ d → u ≡ v → bit_at m i ≡ true → ⊥) → excuses_of w.tables k u i ≡ true → excuses_of t k u i ≡ true
  unfolding notes_dropped
  excused_still k u i hu h ne = excused_grows _ _ k u i _ _ (marked_excused _ _ k u i) (λ b. noted_excused _ _ k u i (noted_still k u i hu h ne b))

  -- a view that holds nothing of the set is covered as it was
  covered : (k u : ℕ) (view : View) → u < s.volumes → ((i : ℕ) → Held s (clocks_of w.tables k) u view i → k ≡ d → u ≡ v → bit_at m i ≡ true → ⊥)
      → CoveredIn s w.tables k u view → CoveredIn s t k u view
  unfolding notes_dropped
  covered k u view hu none c =
      covered_by c (omega arith) (λ i h. excused_still k u i hu h.exists (none i h))
      (λ i h. omega (arith, same_lease k i h.exists (λ p b. none i h p (sym h.inside ∙ member i h.exists b) b)))

  -- the client itself: of this epoch it holds nothing of the set, and of an older one the guard covers it
  here : CoveredIn s t d v (view_in s w d v)
  unfolding notes_dropped
  here = go (ℕ_discrete (get_or w.tables.views.epoch (by_volume d v) 0) (epoch_at w.tables v))
    where
      go : Dec (get_or w.tables.views.epoch (by_volume d v) 0 ≡ epoch_at w.tables v) → CoveredIn s t d v (view_in s w d v)
      go (yes q) = covered d v _ hv (λ i h p r b. (ok.unheld clears q).none i b h) (inv.views d v hd hv)
      go (no q) = covered_older q (inv.views d v hd hv)

  keeps : Keeps s w (with_tables w t)
  unfolding notes_dropped
  keeps k (Renew i n' f ver) z hk c = c
  keeps k (Grant i n' x f ver y p) z hk c =
      let hu = range.within i c.exists in
      record {
        exists = c.exists;
        header = c.header;
        reached = c.reached;
        payload = c.payload;
        object = c.object;
        unoffered = λ a b. let q = c.unoffered a b in (q.0, ⊎_elim (λ r. r.2) (λ r. r.1 ∙ q.1) (at_batch k (volume_of s i) hu));
        held = c.held;
        covered = λ a. ⊎_elim (λ q. covered_older (λ b. batched k (volume_of s i) q.0 q.1 (c.unoffered a b).1) (c.covered a))
            (λ q. covered k (volume_of s i) _ hu (λ j h l r b. q.0 l r) (c.covered a)) (at_batch k (volume_of s i) hu);
      }
    where
      -- the batch stood
      batched : (k u : ℕ) → k ≡ d → u ≡ v → batch_at w.tables k u ≡ 0 → ⊥
      batched k u p q a = clears.nonzero (sym clears.same ∙ rw (p, q) at a)
  keeps k (Invalidate i f ver) z hk c = c
  keeps k (Ack i f ver) z hk c = c
  keeps k (Offer u n' f) z hk c = c
  keeps k (Dropped u n' f) z hk c = record {
    exists = c.exists;
    header = c.header;
    writes = λ a i h q b. left_none _;
    remains = λ a b. remains_by (c.remains a b) (λ i h. omega (arith, same_lease k i h.exists (λ p l. none k u p (sym h.inside ∙ member i h.exists l) b i l h)));
  }
    where
      none : (k u : ℕ) → k ≡ d → u ≡ v → get_or w.tables.views.epoch (by_volume k u) 0 ≡ epoch_at w.tables u → (i : ℕ) → bit_at m i ≡ true → Held s (clocks_of w.tables k) u (view_in s w k u) i → ⊥
      none k u p q b i l h = (ok.unheld clears (rw (p, q) at b)).none i l (rw (p, q) at h)
  keeps k (Batch u n' f m') z hk c = c
  keeps k (Cleared u n' f m') z hk c = record {
    exists = c.exists;
    header = c.header;
    unheld = λ a. ⊎_elim (λ q. absurd (a.nonzero (sym a.same ∙ q.2)))
        (λ q. c.unheld (record { current = a.current; nonzero = a.nonzero; same = sym q.1 ∙ a.same })) (at_batch k u c.exists);
  }

  pub cleared_keeps : Inv s (with_tables w t)
  unfolding notes_dropped
  cleared_keeps = record {
    bounds = record {
      guards = inv.bounds.guards;
      volumes = inv.bounds.volumes;
      sessions = inv.bounds.sessions;
      objects = inv.bounds.objects;
      leases = λ k i hk h. ⊎_elim (λ a. rw a.2 (omega arith)) (λ a. rw a.1 (inv.bounds.leases k i hk h)) (at_lease k i h);
    };
    epochs = inv.epochs;
    numbers = inv.numbers;
    versions = inv.versions;
    offers = inv.offers;
    batches = λ k u hk h ne. ⊎_elim (λ a. absurd (ne a.2)) (λ a. let b = inv.batches k u hk h (λ z. ne (a.1 ∙ z)) in (λ z. b.0 (sym (off_place (at_notes k u h) a.0) ∙ z), b.1)) (at_batch k u h);
    writes = record {
      guards = inv.writes.guards;
      waits = λ k i hk h a b. let l = inv.writes.waits k i hk h a b in ⊎_elim (λ q. omega (arith, q.2)) (λ q. omega (arith, q.1)) (at_lease k i h);
      others = λ k i hk h a b. ⊎_elim (λ q. inl (rw q.2 (zero_dead w.tables.clock)))
          (λ q. rw q.1 (⊎_elim inl (λ r. inr (r.0, excused_still k (volume_of s i) i (range.within i h) h (λ p l c. q.0 p c) r.1)) (inv.writes.others k i hk h a b)))
          (at_lease k i h);
    };
    views = λ k u hk h. ⊎_elim (λ a. rw (a.0, a.1) here) (λ a. covered k u _ h (λ i q p r b. a.0 p r) (inv.views k u hk h)) (at_batch k u h);
    messages = each inv keeps;
    pairs = inv.pairs;
  }
