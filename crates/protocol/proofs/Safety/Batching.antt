-- A client takes a BATCH: its request ends, the copies of the set are erased, and the CLEARED says so.
use Rattle.std.specs.Prelude.{ℕ, ◌*◌, ◌<◌, true, List, ◌⊎◌, ◌≡◌, refl, length, set}
use Rattle.std.proofs.Math.Logic.{inl, inr}
use Rattle.std.proofs.Common.{⊎_elim, ◌∙◌}
use Rattle.laws.specs.Choice.{same?, cond_keeps}
use Rattle.laws.specs.Sets.{bit_at}
use Rattle.protocol.specs.declared.message.Kind.TheVariants.{Batch, Cleared}
use Rattle.protocol.specs.declared.records.Copy.{Copy}
use Rattle.protocol.specs.declared.setup.Setup.{Setup}
use Rattle.protocol.specs.declared.step.Sweep.TheVariants.{Forget}
use Rattle.protocol.specs.Messages.{message}
use Rattle.protocol.specs.Tables.{no_copy}
use Rattle.protocol.specs.Server.{sent}
use Rattle.protocol.specs.Client.{ended, swept, swept_all}
use Rattle.protocol.specs.World.{World}
use Rattle.protocol.specs.Soundness.Shape.{WorldShape}
use Rattle.protocol.specs.Safety.View.{copy_at, request_at}
use Rattle.protocol.specs.Safety.Invariant.{Inv, KindOk}
use Rattle.protocol.proofs.Safety.Stores.{same_version_law}
use Rattle.protocol.proofs.Safety.Sending.{send_single}
use Rattle.protocol.specs.Safety.Requests.{requesting}
use Rattle.protocol.proofs.Safety.Requests.{has_record, request_ends, ended_idle, ended_moves, header}
use Rattle.protocol.proofs.Safety.Erasing.{copies_erased}
use Rattle.protocol.proofs.Safety.Sweeping.{swept_own, swept_other}

-- what the sweep leaves of one copy
module _ (s : Setup) (m : ℕ) (c : Copy) (k : ℕ) where
  forget_some : ((swept s (Forget m) c k).version ≡ 0) ⊎ (swept s (Forget m) c k ≡ c)
  unfolding swept
  forget_some = cond_keeps (λ (x : Copy). (x.version ≡ 0) ⊎ (x ≡ c)) (bit_at m k) (λ e. inl refl) (λ e. inr refl)

  forget_member : bit_at m k ≡ true → swept s (Forget m) c k ≡ no_copy
  unfolding swept
  forget_member e = rw e

-- ---- BATCH of client d, taken
module _ (s : Setup) (w : World) (inv : Inv s w) (shape : WorldShape s w) (d v n e m : ℕ) (hd : d < s.clients) (ok : KindOk s w d (Batch v n e m)) where
  here : d < length w.requests
  here = has_record shape hd

  abbrev idle : World
  idle = requesting w (set w.requests d (ended (request_at w.requests d)))

  abbrev copies : List Copy
  copies = swept_all s (Forget m) (d * s.objects) w.copies

  own_copy : (i : ℕ) → i < s.objects → copy_at s copies d i ≡ swept s (Forget m) (copy_at s w.copies d i) i
  own_copy i h = swept_own s w.copies d shape.copies hd (Forget m) i h

  other_copy : (k i : ℕ) → i < s.objects → (k ≡ d → ⊥) → copy_at s copies k i ≡ copy_at s w.copies k i
  other_copy k i h ne = swept_other s w.copies d shape.copies hd (Forget m) k i ne h

  less : (k i : ℕ) → i < s.objects → ((copy_at s copies k i).version ≡ 0) ⊎ (copy_at s copies k i ≡ copy_at s w.copies k i)
  less k i h =
      ⊎_elim (λ p. rw p (⊎_elim (λ q. inl (same_version_law (own_copy i h) ∙ q)) (λ q. inr (own_copy i h ∙ q)) (forget_some s m (copy_at s w.copies d i) i)))
      (λ p. inr (other_copy k i h p)) (same? k d)

  erased : Inv s (record { tables = w.tables; copies = copies; requests = idle.requests })
  erased =
      copies_erased s idle (request_ends s w inv d here) copies less
      (λ k n' i a b h. ⊎_elim (λ p. absurd (ended_idle w.requests d here n' (rw p at a))) (λ p. same_version_law (other_copy k i h p)) (same? k d))

  pub batch_taken : Inv s (record {
    tables = sent w.tables (message d (Cleared v n e m));
    copies = copies;
    requests = idle.requests;
  })
  batch_taken =
      send_single s (record { tables = w.tables; copies = copies; requests = idle.requests }) erased (message d (Cleared v n e m)) shape.tables.queue.items
      (record {
        client = hd;
        kind = record {
          exists = ok.exists;
          header = header s w inv _ (ended_moves w.requests d here) d v n e ok.header;
          unheld = λ a b. record { none = λ i p h. h.copy (same_version_law (own_copy i h.exists ∙ forget_member s m (copy_at s w.copies d i) i p)) };
        };
      })
      (λ i a. a) (λ k i b. b)
