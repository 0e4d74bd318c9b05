-- The entries of the tables that bounds are about, as words: the clock, the list's length and the versions.
use Rattle.std.specs.Prelude.{ℕ, ◌+◌, ◌<◌, List, ◌≡◌, get_or}
use Rattle.std.proofs.Common.{arith}
use Rattle.std.proofs.Math.Path.{sym}
use Rattle.laws.specs.Parts.{part_at}
use Rattle.protocol.specs.Tables.{version_at}
use Rattle.state_words.specs.Fields.{word_lengths, at, CLOCK, LENGTH, VERSION}
use Rattle.state_words.specs.View.{tables_of}

module _ (w x : List ℕ) where
  pub clock_word : (tables_of w x).clock ≡ get_or w 0 0
  unfolding tables_of
  clock_word = sym (part_at word_lengths w CLOCK 0 (omega arith))

  pub length_word : (tables_of w x).queue.len ≡ get_or w 1 0
  unfolding tables_of
  length_word = sym (part_at word_lengths w LENGTH 0 (omega arith))

  pub version_word : (o : ℕ) → o < 32 → version_at (tables_of w x) o ≡ get_or w (at VERSION + o) 0
  unfolding tables_of
  version_word o h = sym (part_at word_lengths w VERSION o h)
