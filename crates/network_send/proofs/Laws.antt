-- Sending a message: the tables that result, and that no record changes. Word 1 of w is the length of the list.
use Prim.Native.Nat.{ℕ, ◌+◌, ◌*◌, ◌<◌, ◌≤◌}
use native.Mathlib.Omega.{arith}
use mathlib.Core.List.{List}
use mathlib.Core.Path.{◌≡◌, refl, ap, ◌∙◌}
use lib.ListN.{length, get_or, set}
use lib.Seq.{get_or-set_same}
use borrow.Author.Tests.{lt-ltb, le-ltb}
use Rattle.laws.specs.Parts.{parts, with_part, part_at, part_length, stored, stored_each}
use Rattle.laws.specs.Store.{store_each, always}
use Rattle.protocol.specs.declared.message.Message.{Message}
use Rattle.protocol.specs.Messages.{pushed}
use Rattle.protocol.specs.Server.{sent}
use Rattle.message_fields.specs.declared.Fields.{Fields}
use Rattle.message_fields.specs.Fields.{fields_of}
use Rattle.state_words.specs.Fields.{word_lengths, value_lengths, at, at_value, WORDS, VALUES, LENGTH, MESSAGES, MESSAGE_VALUE}
use Rattle.state_words.specs.Rows.{words_of, Narrow}
use Rattle.state_words.specs.View.{tables_of, records_of}
use Rattle.network_send.proofs.Rows.{items_set}

module _ (w x u : List ℕ) (lw : length w ≡ WORDS) (lx : length x ≡ VALUES) where
  module _ (m : Message) (f : Fields) (r : List ℕ) (h : get_or w 1 0 < 64) (e : f ≡ fields_of m) (g : (r ≡ words_of f) × Narrow f)
      (k : u ≡ store_each always (λ (k : ℕ). at MESSAGES + (get_or w 1 0 * 9 + k)) (λ (k : ℕ). get_or r k 0) w 9) where
    row_stored : parts word_lengths u ≡ with_part (parts word_lengths w) MESSAGES (store_each always (λ (k : ℕ).
        get_or w 1 0 * 9 + k) (λ (k : ℕ). get_or (words_of f) k 0) (parts word_lengths w MESSAGES) 9)
    row_stored =
        ap (parts word_lengths) (k ∙ ap (λ (r : List ℕ). store_each always (λ (k : ℕ). at MESSAGES + (get_or w 1 0 * 9 + k)) (λ (k : ℕ). get_or r k 0) w 9) g.0)
        ∙ stored_each word_lengths MESSAGES always (λ (k : ℕ). get_or w 1 0 * 9 + k) (λ (k : ℕ). get_or (words_of f) k 0) 9 (λ d a. omega arith) w

    tables_pushed : tables_of (set u 1 (get_or w 1 0 + 1)) (set x (at_value MESSAGE_VALUE + get_or w 1 0) f.value) ≡ sent (tables_of w x) m
    unfolding tables_of pushed
    tables_pushed =
        rw (
          stored word_lengths u LENGTH 0 (get_or w 1 0 + 1) (omega arith),
          row_stored,
          stored value_lengths x MESSAGE_VALUE (get_or w 1 0) f.value h,
          ← part_at word_lengths w LENGTH 0 (omega arith),
          lt-ltb (get_or w 1 0) 64 h,
          get_or-set_same (parts word_lengths w LENGTH)
              0 (get_or w 1 0 + 1) 0 (omega (arith, part_length word_lengths w LENGTH (omega arith))),
          items_set (parts word_lengths w MESSAGES)
              (parts value_lengths x MESSAGE_VALUE) (get_or w 1 0) m f h (part_length word_lengths w MESSAGES (omega arith))
              (part_length value_lengths x MESSAGE_VALUE (omega arith)) g.1 e,
        )

    records_pushed : records_of (set u 1 (get_or w 1 0 + 1)) (set x (at_value MESSAGE_VALUE + get_or w 1 0) f.value) ≡ records_of w x
    unfolding records_of
    records_pushed = rw (stored word_lengths u LENGTH 0 (get_or w 1 0 + 1) (omega arith), row_stored, stored value_lengths x MESSAGE_VALUE (get_or w 1 0) f.value h)

    pub pushes : (tables_of (set u 1 (get_or w 1 0 + 1)) (set x (at_value MESSAGE_VALUE + get_or w 1 0) f.value) ≡ sent (tables_of w x) m)
        × (records_of (set u 1 (get_or w 1 0 + 1)) (set x (at_value MESSAGE_VALUE + get_or w 1 0) f.value) ≡ records_of w x)
    pushes = (tables_pushed, records_pushed)

pub lost : (w x : List ℕ) (m : Message) → 64 ≤ get_or w 1 0 → (tables_of w x ≡ sent (tables_of w x) m) × (records_of w x ≡ records_of w x)
unfolding tables_of pushed
lost w x m h = (rw (← part_at word_lengths w LENGTH 0 (omega arith), le-ltb (get_or w 1 0) 64 h), refl)
