-- Copies are erased for which no request stands: an INVALIDATE is received, or a BATCH.
use Rattle.std.specs.Prelude.{ℕ, ◌<◌, List, ◌⊎◌, ◌≡◌, refl}
use Rattle.std.proofs.Common.{arith, ⊎_elim, sym, ap, ◌∙◌}
use Rattle.protocol.specs.declared.message.Kind.TheVariants.{Renew, Grant, Invalidate, Ack, Offer, Dropped, Batch, Cleared}
use Rattle.protocol.specs.declared.records.Copy.{Copy}
use Rattle.protocol.specs.declared.setup.Setup.{Setup}
use Rattle.protocol.specs.Setup.{volume_of}
use Rattle.protocol.specs.World.{World}
use Rattle.protocol.specs.Safety.View.{Stands, copy_at, request_at}
use Rattle.protocol.specs.Safety.Invariant.{Inv}
use Rattle.protocol.proofs.Safety.Stores.{same_version_law}
use Rattle.protocol.specs.Safety.Covering.{Fewer}
use Rattle.protocol.proofs.Safety.Covering.{view_less, granted_less, covered_less, remains_less, unheld_less}
use Rattle.protocol.specs.Safety.Sending.{Keeps}
use Rattle.protocol.proofs.Safety.Sending.{each}
use Rattle.protocol.proofs.Safety.Taking.{names_same}

-- each copy stays or is erased, and those that the standing requests are about stay
module _ (s : Setup) (w : World) (inv : Inv s w) (copies : List Copy)
    (less : (k i : ℕ) → i < s.objects → ((copy_at s copies k i).version ≡ 0) ⊎ (copy_at s copies k i ≡ copy_at s w.copies k i))
    (about : (k n i : ℕ) → Stands w.requests k n → (request_at w.requests k).object ≡ i → i < s.objects → (copy_at s copies k i).version ≡ (copy_at s w.copies k i).version) where
  fewer : (k v : ℕ) → Fewer s k v w.copies copies
  fewer k v = record { each = λ i h q. less k i h }

  abbrev erasing : World
  erasing = record { tables = w.tables; copies = copies; requests = w.requests }

  keeps : Keeps s w erasing
  keeps k (Renew i n e ver) z hk c = record {
    exists = c.exists;
    reached = c.reached;
    taken = c.taken;
    object = c.object;
    knows = c.knows;
    held = λ a. c.held a ∙ sym (about k n i a (c.object a) c.exists);
  }
  keeps k (Grant i n x e ver y p) z hk c = record {
    exists = c.exists;
    header = c.header;
    reached = c.reached;
    payload = c.payload;
    object = c.object;
    unoffered = c.unoffered;
    held = λ a. names_same _ _ ver p (about k n i a (c.object a) c.exists) (c.held a);
    covered = λ a. covered_less (granted_less (fewer k (volume_of s i)) i x e ver y) (c.covered a);
  }
  keeps k (Invalidate i e ver) z hk c = c
  keeps k (Ack i e ver) z hk c = record {
    invalidate = c.invalidate;
    erased = λ a. ⊎_elim (λ q. q) (λ q. same_version_law q ∙ c.erased a) (less k i c.invalidate.exists);
  }
  keeps k (Offer v n e) z hk c = c
  keeps k (Dropped v n e) z hk c = record {
    exists = c.exists;
    header = c.header;
    writes = c.writes;
    remains = λ a b. remains_less (view_less (fewer k v) refl refl) (c.remains a b);
  }
  keeps k (Batch v n e m) z hk c = c
  keeps k (Cleared v n e m) z hk c = record {
    exists = c.exists;
    header = c.header;
    unheld = λ a b. unheld_less (view_less (fewer k v) refl refl) (c.unheld a b);
  }

  pub copies_erased : Inv s erasing
  copies_erased = record {
    bounds = inv.bounds;
    epochs = inv.epochs;
    numbers = inv.numbers;
    versions = record {
      positive = inv.versions.positive;
      reached = λ k i hk hi. ⊎_elim (λ q. rw q (omega arith)) (λ q. rw q (inv.versions.reached k i hk hi)) (less k i hi);
      values = λ k i hk hi e. ⊎_elim (λ q. let b = inv.versions.positive i hi in let r = sym e ∙ q in absurd (omega arith))
          (λ q. ap (λ (c : Copy). c.value) q ∙ inv.versions.values k i hk hi (sym (same_version_law q) ∙ e)) (less k i hi);
    };
    offers = inv.offers;
    batches = inv.batches;
    writes = inv.writes;
    views = λ k v hk hv. covered_less (view_less (fewer k v) refl refl) (inv.views k v hk hv);
    messages = each inv keeps;
    pairs = inv.pairs;
  }
