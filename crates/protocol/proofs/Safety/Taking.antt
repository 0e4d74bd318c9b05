-- What one client knows and holds is replaced while its request ends: a GRANT or an OFFER taken, a restart. Nobody else is touched.
use Rattle.std.specs.Prelude.{ℕ, ◌<◌, ◌≤◌, List, ◌≡◌, refl, get_or, set, Option, None, Some}
use Rattle.std.proofs.Common.{inr, ⊎_elim, sym, ◌∙◌}
use Rattle.laws.specs.Choice.{same?}
use Rattle.protocol.specs.declared.message.Kind.TheVariants.{Renew, Grant, Invalidate, Ack, Offer, Dropped, Batch, Cleared}
use Rattle.protocol.specs.declared.records.Copy.{Copy}
use Rattle.protocol.specs.declared.setup.Setup.{Setup}
use Rattle.protocol.specs.Setup.{volume_of}
use Rattle.protocol.specs.Tables.{by_volume, epoch_at, value_at, version_at, view_epoch_at, view_expiry_at, with_views}
use Rattle.protocol.specs.Client.{ended, viewed}
use Rattle.protocol.specs.Updates.{with_view_epoch, with_view_expiry}
use Rattle.protocol.specs.World.{World}
use Rattle.protocol.specs.Soundness.Shape.{WorldShape}
use Rattle.protocol.specs.Safety.View.{Stands, Unheld, copy_at, request_at, view_of, view_at}
use Rattle.protocol.specs.Safety.Invariant.{Inv, Sent, from, view_in, NamesHeld, clocks_of, CoveredIn, RemainsIn, AnswersIn, ClearsIn, AcknowledgesIn}
use Rattle.protocol.specs.Safety.Stores.{After}
use Rattle.protocol.proofs.Safety.Stores.{at_place, off_place, volume_set, same_version_law}
use Rattle.protocol.specs.Safety.Covering.{Less, Fewer}
use Rattle.protocol.proofs.Safety.Covering.{view_less, granted_less, covered_less, remains_less, unheld_less}
use Rattle.protocol.specs.Safety.Sending.{Keeps}
use Rattle.protocol.proofs.Safety.Sending.{each}
use Rattle.protocol.specs.Safety.Requests.{requesting}
use Rattle.protocol.proofs.Safety.Requests.{has_record, request_ends, ended_idle}
use Rattle.protocol.specs.Ranges.{Ranges}
use Rattle.protocol.specs.Safety.Taking.{seeing, Others, Own}

pub names_same : (held held' ver : ℕ) (p : Option ℕ) → held' ≡ held → NamesHeld held ver p → NamesHeld held' ver p
names_same held held' ver None e a = (a.0 ∙ sym e, a.1)
names_same held held' ver (Some x) e a = tt

-- ---- in all volumes

module _ (s : Setup) (range : Ranges s) (w : World) (inv : Inv s w) (d : ℕ) (idle : (n : ℕ) → Stands w.requests d n → ⊥) (known expiry : List ℕ) (copies : List Copy)
    (others : Others s w.tables d known expiry w.copies copies) (own : Own s w.tables d known expiry copies) where
  busy : (k n : ℕ) → Stands w.requests k n → k ≡ d → ⊥
  busy k n a e = idle n (rw e at a)

  same_copies : (k v : ℕ) → (k ≡ d → ⊥) → Fewer s k v w.copies copies
  same_copies k v ne = record { each = λ o i j. inr (others.copies k o ne i) }

  same_view : (k v : ℕ) → (k ≡ d → ⊥) → v < s.volumes
      → Less s (clocks_of w.tables k) v (view_in s w k v) (view_at s known expiry copies k v)
  same_view k v ne h = view_less (same_copies k v ne) (others.known k v ne h) (others.expiry k v ne h)

  keeps : Keeps s w (seeing w known expiry copies)
  keeps k (Renew o n e ver) z hk c = record {
    exists = c.exists;
    reached = c.reached;
    taken = c.taken;
    object = c.object;
    knows = λ a. c.knows a ∙ sym (others.known k (volume_of s o) (busy k n a) (range.within o c.exists));
    held = λ a. c.held a ∙ sym (same_version_law (others.copies k o (busy k n a) c.exists));
  }
  keeps k (Grant o n x e ver y p) z hk c = record {
    exists = c.exists;
    header = c.header;
    reached = c.reached;
    payload = c.payload;
    object = c.object;
    unoffered = c.unoffered;
    held = λ a. names_same _ _ ver p (same_version_law (others.copies k o (busy k n a) c.exists)) (c.held a);
    covered = λ a. covered_less (granted_less (same_copies k (volume_of s o) (busy k n a)) o x e ver y) (c.covered a);
  }
  keeps k (Invalidate o e ver) z hk c = c
  keeps k (Ack o e ver) z hk c = record {
    invalidate = c.invalidate;
    erased = λ a. ⊎_elim (λ h. let z' = rw h at z in rw h (own.erased o e ver z' a)) (λ ne. same_version_law (others.copies k o ne c.invalidate.exists) ∙ c.erased a) (same? k d);
  }
  keeps k (Offer v n e) z hk c = c
  keeps k (Dropped v n e) z hk c = record {
    exists = c.exists;
    header = c.header;
    writes = c.writes;
    remains = λ a b. ⊎_elim (λ h. let z' = rw h at z in let a' = rw h at a in let b' = rw h at b in rw h (own.remains v n e c.exists z' a' b'))
        (λ ne. remains_less (same_view k v ne c.exists) (c.remains a (sym (others.known k v ne c.exists) ∙ b)))
        (same? k d);
  }
  keeps k (Batch v n e m) z hk c = c
  keeps k (Cleared v n e m) z hk c = record {
    exists = c.exists;
    header = c.header;
    unheld = λ a b. ⊎_elim (λ h. let z' = rw h at z in let a' = rw h at a in let b' = rw h at b in rw h (own.unheld v n e m c.exists z' a' b'))
        (λ ne. unheld_less (same_view k v ne c.exists) (c.unheld a (sym (others.known k v ne c.exists) ∙ b)))
        (same? k d);
  }

  seen : Inv s (seeing w known expiry copies)
  seen = record {
    bounds = inv.bounds;
    epochs = λ k v hk hv. ⊎_elim (λ e. rw e (own.epochs v hv)) (λ ne. rw (others.known k v ne hv) (inv.epochs k v hk hv)) (same? k d);
    numbers = inv.numbers;
    versions = record {
      positive = inv.versions.positive;
      reached = λ k o hk ho. ⊎_elim (λ e. rw e (own.reached o ho)) (λ ne. rw (others.copies k o ne ho) (inv.versions.reached k o hk ho)) (same? k d);
      values = λ k o hk ho. ⊎_elim (λ e. rw e (own.values o ho)) (λ ne. rw (others.copies k o ne ho) (inv.versions.values k o hk ho)) (same? k d);
    };
    offers = inv.offers;
    batches = inv.batches;
    writes = inv.writes;
    views = λ k v hk hv. ⊎_elim (λ e. rw e (own.views v hv)) (λ ne. covered_less (same_view k v ne hv) (inv.views k v hk hv)) (same? k d);
    messages = each inv keeps;
    pairs = inv.pairs;
  }

module _ (s : Setup) (range : Ranges s) (w : World) (inv : Inv s w) (shape : WorldShape s w) (d : ℕ) (hd : d < s.clients) where
  -- .. and the request ends
  pub taken : (known expiry : List ℕ) (copies : List Copy) → Others s w.tables d known expiry w.copies copies → Own s w.tables d known expiry copies → Inv s (record {
    tables = with_views w.tables (with_view_expiry (with_view_epoch w.tables.views known) expiry);
    copies = copies;
    requests = set w.requests d (ended (request_at w.requests d));
  })
  taken known expiry copies others own =
      let here = has_record shape hd in
      seen s range (requesting w (set w.requests d (ended (request_at w.requests d)))) (request_ends s w inv d here) d (ended_idle w.requests d here) known expiry copies others own

  -- ---- in one volume v: its epoch, its expiry, and copies of its objects
  module _ (v e x : ℕ) (hv : v < s.volumes) (copies : List Copy)
      (elsewhere : (k i : ℕ) → i < s.objects → (k ≡ d → volume_of s i ≡ v → ⊥) → copy_at s copies k i ≡ copy_at s w.copies k i) where
    -- what is to be shown of it
    pub record Inside : Type 0 where
      pub epoch : e ≤ epoch_at w.tables v
      pub reached : (o : ℕ) → o < s.objects → volume_of s o ≡ v → (copy_at s copies d o).version ≤ version_at w.tables o
      pub values : (o : ℕ) → o < s.objects → volume_of s o ≡ v → (copy_at s copies d o).version ≡ version_at w.tables o → (copy_at s copies d o).value ≡ value_at w.tables o
      pub view : CoveredIn s w.tables d v (view_of s copies d e x)
      pub erased : (o f ver : ℕ) → Sent w.tables.queue (from d (Ack o f ver)) → volume_of s o ≡ v → AcknowledgesIn s w.tables o f ver → (copy_at s copies d o).version ≡ 0
      pub remains : (n f : ℕ) → Sent w.tables.queue (from d (Dropped v n f)) → AnswersIn w.tables d v n f → e ≡ epoch_at w.tables v → RemainsIn s w.tables d v (view_of s copies d e x)
      pub unheld : (n f m : ℕ) → Sent w.tables.queue (from d (Cleared v n f m)) → ClearsIn w.tables d v n f → e ≡ epoch_at w.tables v
          → Unheld s (clocks_of w.tables d) v m (view_of s copies d e x)

    abbrev known : List ℕ
    known = (viewed w.tables.views d v e x).epoch

    abbrev expiry : List ℕ
    expiry = (viewed w.tables.views d v e x).expiry

    at_known : (k u : ℕ) → u < s.volumes → After d v k u (get_or known (by_volume k u) 0) e (view_epoch_at w.tables k u)
    at_known k u h = volume_set range hd hv w.tables.views.epoch e 0 shape.tables.views.epoch k u h

    at_expiry : (k u : ℕ) → u < s.volumes → After d v k u (get_or expiry (by_volume k u) 0) x (view_expiry_at w.tables k u)
    at_expiry k u h = volume_set range hd hv w.tables.views.expiry x 0 shape.tables.views.expiry k u h

    others : Others s w.tables d known expiry w.copies copies
    others = record {
      known = λ k u ne h. off_place (at_known k u h) (λ a b. ne a);
      expiry = λ k u ne h. off_place (at_expiry k u h) (λ a b. ne a);
      copies = λ k i ne h. elsewhere k i h (λ a b. ne a);
    }

    here : (u : ℕ) → u < s.volumes → u ≡ v → Less s (clocks_of w.tables d) u (view_of s copies d e x) (view_at s known expiry copies d u)
    here u h q = record { known = at_place (at_known d u h) refl q; expiry = at_place (at_expiry d u h) refl q; copies = λ i a. (refl, refl) }

    outside : (u : ℕ) → u < s.volumes → (u ≡ v → ⊥)
        → Less s (clocks_of w.tables d) u (view_in s w d u) (view_at s known expiry copies d u)
    outside u h ne = view_less still (off_place (at_known d u h) (λ a b. ne b)) (off_place (at_expiry d u h) (λ a b. ne b))
      where
        still : Fewer s d u w.copies copies
        still = record { each = λ i j q. inr (elsewhere d i j (λ a b. ne (sym q ∙ b))) }

    own : Inside → Own s w.tables d known expiry copies
    own inside = record {
      epochs = λ u h. ⊎_elim (λ a. rw (a.2, a.1) inside.epoch) (λ a. rw a.1 (inv.epochs d u hd h)) (at_known d u h);
      reached = λ i h. ⊎_elim (inside.reached i h) (λ ne. rw (elsewhere d i h (λ a b. ne b)) (inv.versions.reached d i hd h)) (same? (volume_of s i) v);
      values = λ i h. ⊎_elim (inside.values i h) (λ ne. rw (elsewhere d i h (λ a b. ne b)) (inv.versions.values d i hd h)) (same? (volume_of s i) v);
      views = λ u h. ⊎_elim (λ q. covered_less (here u h q) (rw q inside.view)) (λ ne. covered_less (outside u h ne) (inv.views d u hd h)) (same? u v);
      erased = λ i f ver z a. ⊎_elim (λ q. inside.erased i f ver z q a)
          (λ ne. same_version_law (elsewhere d i (inv.messages _ z).kind.invalidate.exists (λ p q. ne q)) ∙ (inv.messages _ z).kind.erased a) (same? (volume_of s i) v);
      remains = λ u n f h z a b. ⊎_elim
          (λ q. let z' = rw q at z in let a' = rw q at a in let b' = rw q at (sym (at_place (at_known d u h) refl q) ∙ b) in remains_less (here u h q) (rw q (inside.remains n f z' a' b')))
          (λ ne. remains_less (outside u h ne) ((inv.messages _ z).kind.remains a (sym (outside u h ne).known ∙ b)))
          (same? u v);
      unheld = λ u n f m h z a b. ⊎_elim
          (λ q. let z' = rw q at z in let a' = rw q at a in let b' = rw q at (sym (at_place (at_known d u h) refl q) ∙ b) in unheld_less (here u h q) (rw q (inside.unheld n f m z' a' b')))
          (λ ne. unheld_less (outside u h ne) ((inv.messages _ z).kind.unheld a (sym (outside u h ne).known ∙ b)))
          (same? u v);
    }

    pub taken_view : Less s (clocks_of w.tables d) v (view_of s copies d e x) (view_at s known expiry copies d v)
    taken_view = here v hv refl

    pub taken_inside : Inside → Inv s (record {
      tables = with_views w.tables (viewed w.tables.views d v e x);
      copies = copies;
      requests = set w.requests d (ended (request_at w.requests d));
    })
    taken_inside inside = taken known expiry copies others (own inside)
