-- Removing a message: the tables that result, and that no record changes. Word 1 of w is the length of the list.
use Prim.Native.Nat.{ℕ, ◌+◌, ◌*◌, ◌-◌, ◌<◌, ◌≤◌}
use native.Mathlib.Omega.{arith}
use mathlib.Core.List.{List}
use mathlib.Core.Path.{◌≡◌, ap, ◌∙◌}
use lib.ListN.{length, get_or, set}
use lib.Seq.{get_or-set_same}
use Rattle.laws.specs.Parts.{parts, part_at, part_length, stored}
use Rattle.laws.specs.Shift.{shifting, shifts}
use Rattle.protocol.specs.Messages.{removed}
use Rattle.protocol.specs.Decide.{taken}
use Rattle.state_words.specs.Fields.{word_lengths, value_lengths, at, at_value, WORDS, VALUES, LENGTH, MESSAGES, MESSAGE_VALUE}
use Rattle.state_words.specs.View.{tables_of, records_of}
use Rattle.network_queue.proofs.Rows.{items_remove}

module _ (w x u : List ℕ) (lw : length w ≡ WORDS) (lx : length x ≡ VALUES) where
  module _ (v : List ℕ) (i : ℕ) (h : i < get_or w 1 0) (k : get_or w 1 0 ≤ 64) (e : u ≡ shifting (at MESSAGES) (i * 9) ((get_or w 1 0 - (i + 1)) * 9) 9 w)
      (g : v ≡ shifting (at_value MESSAGE_VALUE) i (get_or w 1 0 - (i + 1)) 1 x) where
    tables_taken : tables_of (set u 1 (get_or w 1 0 - 1)) v ≡ taken (tables_of w x) i
    unfolding tables_of removed
    tables_taken =
        rw (
          stored word_lengths u LENGTH 0 (get_or w 1 0 - 1) (omega arith),
          ap (parts word_lengths) e ∙ shifts word_lengths w MESSAGES (i * 9) ((get_or w 1 0 - (i + 1)) * 9) 9 (omega arith),
          ap (parts value_lengths) g ∙ shifts value_lengths x MESSAGE_VALUE i (get_or w 1 0 - (i + 1)) 1 (omega arith),
          ← part_at word_lengths w LENGTH 0 (omega arith),
          get_or-set_same (parts word_lengths w LENGTH)
              0 (get_or w 1 0 - 1) 0 (omega (arith, part_length word_lengths w LENGTH (omega arith))),
          items_remove (get_or w 1 0) (parts word_lengths w MESSAGES) (parts value_lengths x MESSAGE_VALUE) i h
              k (part_length word_lengths w MESSAGES (omega arith)) (part_length value_lengths x MESSAGE_VALUE (omega arith)),
        )

    records_taken : records_of (set u 1 (get_or w 1 0 - 1)) v ≡ records_of w x
    unfolding records_of
    records_taken =
        rw (
          stored word_lengths u LENGTH 0 (get_or w 1 0 - 1) (omega arith),
          ap (parts word_lengths) e ∙ shifts word_lengths w MESSAGES (i * 9) ((get_or w 1 0 - (i + 1)) * 9) 9 (omega arith),
          ap (parts value_lengths) g ∙ shifts value_lengths x MESSAGE_VALUE i (get_or w 1 0 - (i + 1)) 1 (omega arith),
        )

    pub removes : (tables_of (set u 1 (get_or w 1 0 - 1)) v ≡ taken (tables_of w x) i) × (records_of (set u 1 (get_or w 1 0 - 1)) v ≡ records_of w x)
    removes = (tables_taken, records_taken)
