-- What the rules for a RENEW read from the words. None of it depends on the values.
use Prim.Native.Nat.{ℕ, ◌+◌, ◌<◌}
use native.Mathlib.Nat.{sub-zero}
use native.Mathlib.Omega.{arith}
use mathlib.Core.Bool.{true, false, not, ◌||◌}
use mathlib.Core.List.{List}
use mathlib.Core.Path.{◌≡◌, refl, sym, ap, ◌∙◌}
use lib.Dec.{eqb}
use lib.ListN.{get_or}
use borrow.Author.Tests.{eq-eqb, ne_eqb}
use Rattle.laws.specs.Choice.{and-true}
use Rattle.laws.specs.Flags.{flag, flag_at, flag_yes, flag_no}
use Rattle.laws.specs.Parts.{part_at}
use Rattle.laws.specs.Skip.{first_is}
use Rattle.protocol.specs.declared.setup.Setup.{Setup}
use Rattle.protocol.specs.SoundLaws.{Growing}
use Rattle.protocol.specs.Tables.{by_volume, version_at, standing_at, waiting_at}
use Rattle.protocol.specs.Writes.{invalidation}
use Rattle.protocol.specs.Server.{of_volume, has_notes, waited_in, lowest_waited, must_drop}
use Rattle.state_words.specs.Fields.{word_lengths, at, VOLUME_EPOCH, UNREACHABLE, STANDING, NOTES}
use Rattle.state_words.specs.View.{tables_of, numbers_of}

module _ (w : List ℕ) where
  pub drops : (d v e : ℕ) → d < 16 → v < 8 → (not (eqb e (get_or w (at VOLUME_EPOCH + v) 0)) || flag (get_or w (at UNREACHABLE + by_volume d v) 0)) ≡ must_drop (numbers_of w) d v e
  unfolding must_drop tables_of
  drops d v e h l = rw (part_at word_lengths w VOLUME_EPOCH v l, flag_at word_lengths w UNREACHABLE (by_volume d v) (omega arith))

module _ (w x : List ℕ) where
  pub stands : (o : ℕ) → o < 32 → (get_or w (at STANDING + o) 0 ≡ 0 → ⊥) → standing_at (tables_of w x) o ≡ true
  unfolding tables_of
  stands o l h = flag_yes word_lengths w STANDING o l h

  pub rests : (o : ℕ) → o < 32 → get_or w (at STANDING + o) 0 ≡ 0 → standing_at (tables_of w x) o ≡ false
  unfolding tables_of
  rests o l h = flag_no word_lengths w STANDING o l h

  pub noted_there : (d v : ℕ) → d < 16 → v < 8 → (get_or w (at NOTES + by_volume d v) 0 ≡ 0 → ⊥) → has_notes (tables_of w x) d v ≡ true
  unfolding tables_of
  noted_there d v h l n = ap not (ne_eqb _ 0 (λ e. n (part_at word_lengths w NOTES (by_volume d v) (omega arith) ∙ e)))

  pub not_noted : (d v : ℕ) → d < 16 → v < 8 → get_or w (at NOTES + by_volume d v) 0 ≡ 0 → has_notes (tables_of w x) d v ≡ false
  unfolding tables_of
  not_noted d v h l e = ap not (eq-eqb _ 0 (sym (part_at word_lengths w NOTES (by_volume d v) (omega arith)) ∙ e))

  -- these depend on the words alone
  pub drop_same : (d v e : ℕ) → must_drop (numbers_of w) d v e ≡ must_drop (tables_of w x) d v e
  unfolding must_drop tables_of
  drop_same d v e = refl

  pub lowest_same : (s : Setup) (d v : ℕ) → lowest_waited s (numbers_of w) d v ≡ lowest_waited s (tables_of w x) d v
  unfolding lowest_waited tables_of
  lowest_same s d v = refl

  pub resending_same : (s : Setup) (o d : ℕ) → invalidation s (numbers_of w) o d ≡ invalidation s (tables_of w x) o d
  unfolding tables_of
  resending_same s o d = refl

  -- the lowest object whose write waits for the client has a standing write, so its version can grow
  pub low_version : (s : Setup) (d v low : ℕ) → low ≡ lowest_waited s (numbers_of w) d v → Growing s (tables_of w x).objects → low < s.objects → version_at (numbers_of w) low < 4294967295
  unfolding lowest_waited tables_of
  low_version s d v low l g i =
      let k = first_is (waited_in s (tables_of w x) d v) s.objects 0 low (omega arith) (rw sub-zero l) i in
      g.below low i (and-true (standing_at (tables_of w x) low) (waiting_at (tables_of w x) d low) (and-true (of_volume s v low) _ k).1).0
