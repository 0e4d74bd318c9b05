-- The rows below the list's length. In sound tables each of them is a message. If one is not, the tables are unsound, and every step is refused with 1.
-- Letters: s setup, w words, x values, i a place, b whether the records are sound, r a request, y a step; the others are proofs.
use Rattle.std.specs.Prelude.{ℕ, ◌<◌, Bool, true, List, ◌≡◌}
use Rattle.laws.specs.Parts.{parts}
use Rattle.state_words.specs.Fields.{word_lengths, value_lengths, MESSAGES, MESSAGE_VALUE}
use Rattle.state_words.specs.Rows.{is_message}
use Rattle.state_words.specs.View.{tables_of}

-- whether row i is a message
abbrev pub message_there : List ℕ → List ℕ → ℕ → Bool
message_there w x i = is_message (parts word_lengths w MESSAGES) (parts value_lengths x MESSAGE_VALUE) i

-- row i is below the list's length and is a message
pub record Live (w x : List ℕ) (i : ℕ) : Type 0 where
  pub inside : i < 64
  pub below : i < (tables_of w x).queue.len
  pub message : message_there w x i ≡ true
