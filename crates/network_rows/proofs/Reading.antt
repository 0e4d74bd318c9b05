-- Reading the words of a row.
use Prim.Native.Nat.{ℕ, ◌+◌, ◌*◌, ◌%◌, ◌<◌}
use native.Mathlib.Omega.{arith}
use mathlib.Core.List.{List}
use mathlib.Core.Path.{◌≡◌}
use lib.ListN.{get_or}
use Rattle.laws.specs.Parts.{parts, part_at}
use Rattle.message_fields.specs.Fields.{row}
use Rattle.state_words.specs.Fields.{word_lengths, value_lengths, at, at_value, MESSAGES, MESSAGE_VALUE}
use Rattle.state_words.specs.Rows.{fields_at}

pub word_at : (w : List ℕ) (i k : ℕ) → i < 64 → k < 9 → get_or w (at MESSAGES + (i * 9 + k)) 0 ≡ get_or (parts word_lengths w MESSAGES) (i * 9 + k) 0
word_at w i k h j = part_at word_lengths w MESSAGES (i * 9 + k) (omega arith)

pub load_is : (r x : List ℕ) (i a b c d k₀ k₁ k₂ k₃ k₄ k₅ k₆ k₇ k₈ : ℕ) → i < 64 → a ≡ k₀ % 256 → b ≡ k₁ % 256 → c ≡ k₂ % 256 → d ≡ k₃ % 256
    → k₀ ≡ get_or r (i * 9 + 0) 0 → k₁ ≡ get_or r (i * 9 + 1) 0 → k₂ ≡ get_or r (i * 9 + 2) 0 → k₃ ≡ get_or r (i * 9 + 3) 0 → k₄ ≡ get_or r (i * 9 + 4) 0
    → k₅ ≡ get_or r (i * 9 + 5) 0 → k₆ ≡ get_or r (i * 9 + 6) 0 → k₇ ≡ get_or r (i * 9 + 7) 0 → k₈ ≡ get_or r (i * 9 + 8) 0
    → row a b c d k₄ k₅ k₆ k₇ k₈ (get_or x (at_value MESSAGE_VALUE + i) 0) ≡ fields_at r (parts value_lengths x MESSAGE_VALUE) i
unfolding fields_at
load_is r x i a b c d k₀ k₁ k₂ k₃ k₄ k₅ k₆ k₇ k₈ h p q s t e₀ e₁ e₂ e₃ e₄ e₅ e₆ e₇ e₈ =
    rw (p, q, s, t, e₀, e₁, e₂, e₃, e₄, e₅, e₆, e₇, e₈, part_at value_lengths x MESSAGE_VALUE i h)
