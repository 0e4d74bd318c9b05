-- The message in a row and the message at a place, one law for each branch of the code. Word 1 of w is the length of the list.
use Prim.Native.Nat.{ℕ, ◌<◌, ◌≤◌}
use native.Mathlib.Omega.{arith}
use mathlib.Core.Bool.{Bool, true, false}
use mathlib.Core.List.{List}
use mathlib.Core.Path.{◌≡◌, refl, sym, ◌∙◌}
use Rattle.std.specs.Prelude.{cond, Result, Ok, Err}
use Rattle.std.specs.Result.{result_unwrap_or}
use lib.ListN.{get_or}
use Rattle.laws.specs.Parts.{parts, part_at}
use Rattle.laws.specs.Tabulate.{tabulate_at, tabulate_past}
use Rattle.protocol.specs.declared.message.Message.{Message}
use Rattle.protocol.specs.declared.refusal.Refusal.{Refusal}
use Rattle.protocol.specs.declared.refusal.Refusal.TheVariants as no
use Rattle.protocol.specs.Messages.{blank, message_at}
use Rattle.message_fields.specs.declared.Fields.{Fields}
use Rattle.message_fields.specs.Fields.{message_in, sound, accepted}
use Rattle.state_words.specs.Fields.{word_lengths, value_lengths, LENGTH, MESSAGES, MESSAGE_VALUE}
use Rattle.state_words.specs.Rows.{fields_at, narrow_at, stray, message_of, message_from}
use Rattle.state_words.specs.View.{tables_of}
use Rattle.state_words.specs.LiveRows.{Live}
use Rattle.state_words.proofs.ReadsLaws.{length_word}
use Rattle.network_rows.proofs.Places.{at_in, at_past}

module _ (rows values : List ℕ) (i : ℕ) (n : Bool) (m : Message) (g : n ≡ narrow_at rows i) where
  pub row_stray : n ≡ false → m ≡ stray → m ≡ message_of rows values i
  unfolding message_of
  row_stray h j = rw (← g, h) j

  pub row_message : (f : Fields) (t : Result Message Refusal) (z : Message) → n ≡ true → f ≡ fields_at rows values i → t ≡ accepted f → z ≡ stray
      → m ≡ result_unwrap_or t z → m ≡ message_of rows values i
  unfolding message_of accepted
  row_message f t z h e k s j = j ∙ rw (← g, h, ← e, k, s) (pick (sound f))
    where
      pick : (b : Bool) → result_unwrap_or (cond b (Ok (message_in f)) (Err no.Frame)) stray ≡ cond b (message_in f) stray
      pick true = refl
      pick false = refl

module _ (w x : List ℕ) (i : ℕ) where
  abbrev count : ℕ
  count = get_or (parts word_lengths w LENGTH) 0 0

  found : i < 64 → message_from count (parts word_lengths w MESSAGES) (parts value_lengths x MESSAGE_VALUE) i ≡ message_at (tables_of w x).queue i
  unfolding tables_of
  found h = sym (tabulate_at (message_from count (parts word_lengths w MESSAGES) (parts value_lengths x MESSAGE_VALUE)) 64 i blank h)

  pub at_place : (m : Message) → i < 64 → i < get_or w 1 0 → m ≡ message_of (parts word_lengths w MESSAGES) (parts value_lengths x MESSAGE_VALUE) i → m ≡ message_at (tables_of w x).queue i
  at_place m h k g = g ∙ sym (at_in count _ _ i (rw (← part_at word_lengths w LENGTH 0 (omega arith)) k)) ∙ found h

  pub past_last : (m : Message) → i < 64 → get_or w 1 0 ≤ i → m ≡ blank → m ≡ message_at (tables_of w x).queue i
  past_last m h k g =
      g ∙ sym (at_past count (parts word_lengths w MESSAGES) (parts value_lengths x MESSAGE_VALUE) i (rw (← part_at word_lengths w LENGTH 0 (omega arith)) k)) ∙ found h

  pub past_place : (m : Message) → 64 ≤ i → m ≡ blank → m ≡ message_at (tables_of w x).queue i
  unfolding tables_of
  past_place m h g = g ∙ sym (tabulate_past (message_from count (parts word_lengths w MESSAGES) (parts value_lengths x MESSAGE_VALUE)) 0 64 i blank h)

  pub live_place : (f : Fields) (m : Message)
      → Live w x i → f ≡ fields_at (parts word_lengths w MESSAGES) (parts value_lengths x MESSAGE_VALUE) i
      → m ≡ message_in f → m ≡ message_at (tables_of w x).queue i
  unfolding message_of
  live_place f m h e g = at_place m h.inside (rw (length_word w x) at h.below) (rw (h.message, ← e) g)
