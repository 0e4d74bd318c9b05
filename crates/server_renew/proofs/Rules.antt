-- The rules for a RENEW in order: one law for each rule that may be the first to fit.
use Prim.Native.Nat.{ℕ, ◌<◌, ◌≤◌}
use mathlib.Core.Bool.{Bool, true, false}
use mathlib.Core.List.{List}
use mathlib.Core.Path.{◌≡◌, refl, sym, ap, ◌∙◌}
use borrow.Author.Tests.{lt-ltb, le-ltb}
use Rattle.protocol.specs.declared.message.Message.{Message}
use Rattle.protocol.specs.declared.setup.Setup.{Setup}
use Rattle.protocol.specs.Setup.{volume_of}
use Rattle.protocol.specs.Tables.{standing_at}
use Rattle.protocol.specs.Writes.{invalidation}
use Rattle.protocol.specs.Server.{sent, offered, offering, has_notes, batched, batching, lowest_waited, granted, must_drop, renewed_by}
use Rattle.lease_tests.specs.Parts.{Placed}
use Rattle.state_words.specs.View.{tables_of, numbers_of, records_of}
use Rattle.server_renew.proofs.Reading.{drop_same, lowest_same, resending_same}

module _ (s : Setup) (w x : List ℕ) (d o n e held v : ℕ) (r : Bool) (p : Placed s o v) (k : r ≡ must_drop (numbers_of w) d v e) where
  dropping : r ≡ must_drop (tables_of w x) d (volume_of s o) e
  dropping = k ∙ drop_same w x d v e ∙ ap (λ (v : ℕ). must_drop (tables_of w x) d v e) p.is

  pub by_offer : (u y : List ℕ) → r ≡ true
      → (tables_of u y ≡ sent (offered (tables_of w x) d v n) (offering (tables_of w x) d v n)) × (records_of u y ≡ records_of w x)
      → (tables_of u y ≡ renewed_by s (tables_of w x) d o n e held) × (records_of u y ≡ records_of w x)
  unfolding renewed_by
  by_offer u y h f = (rw (sym dropping ∙ h, f.0, p.is), f.1)

  pub by_batch : (u y : List ℕ) → r ≡ false → has_notes (tables_of w x) d v ≡ true
      → (tables_of u y ≡ sent (batched (tables_of w x) d v n) (batching (tables_of w x) d v n)) × (records_of u y ≡ records_of w x)
      → (tables_of u y ≡ renewed_by s (tables_of w x) d o n e held) × (records_of u y ≡ records_of w x)
  unfolding renewed_by
  by_batch u y h b f = (rw (sym dropping ∙ h, ← p.is, b, f.0), f.1)

  module _ (low : ℕ) (h : r ≡ false) (b : has_notes (tables_of w x) d v ≡ false) (l : low ≡ lowest_waited s (numbers_of w) d v) where
    unnoted : has_notes (tables_of w x) d (volume_of s o) ≡ false
    unnoted = rw (← p.is) b

    lowest : low ≡ lowest_waited s (tables_of w x) d (volume_of s o)
    lowest = l ∙ lowest_same w x s d v ∙ ap (lowest_waited s (tables_of w x) d) p.is

    pub by_resend : (u y : List ℕ) (m : Message) → low < s.objects → m ≡ invalidation s (numbers_of w) low d
        → (tables_of u y ≡ sent (tables_of w x) m) × (records_of u y ≡ records_of w x)
        → (tables_of u y ≡ renewed_by s (tables_of w x) d o n e held) × (records_of u y ≡ records_of w x)
    unfolding renewed_by
    by_resend u y m i q f = (f.0 ∙ rw (sym dropping ∙ h, unnoted, ← lowest, lt-ltb low s.objects i, q ∙ resending_same w x s low d), f.1)

    pub by_hold : s.objects ≤ low → standing_at (tables_of w x) o ≡ true → (tables_of w x ≡ renewed_by s (tables_of w x) d o n e held) × (records_of w x ≡ records_of w x)
    unfolding renewed_by
    by_hold i j = (rw (sym dropping ∙ h, unnoted, ← lowest, le-ltb low s.objects i, j), refl)

    pub by_grant : (u y : List ℕ) → s.objects ≤ low → standing_at (tables_of w x) o ≡ false
        → (tables_of u y ≡ granted s (tables_of w x) d o n held) × (records_of u y ≡ records_of w x)
        → (tables_of u y ≡ renewed_by s (tables_of w x) d o n e held) × (records_of u y ≡ records_of w x)
    unfolding renewed_by
    by_grant u y i j f = (rw (sym dropping ∙ h, unnoted, ← lowest, le-ltb low s.objects i, j, f.0), f.1)
