-- Storing a mark.
use Prim.Native.Nat.{ℕ, ◌+◌, ◌<◌}
use native.Mathlib.Omega.{arith}
use mathlib.Core.List.{List}
use mathlib.Core.Path.{◌≡◌}
use lib.ListN.{set}
use Rattle.laws.specs.Flags.{flags_set}
use Rattle.laws.specs.Parts.{parts, stored}
use Rattle.protocol.specs.Tables.{by_volume}
use Rattle.protocol.specs.Writes.{marked}
use Rattle.state_words.specs.Fields.{word_lengths, at, UNREACHABLE, NOTES, BATCH}
use Rattle.state_words.specs.View.{tables_of, records_of}
use Rattle.server_marks.specs.SessionWords.{sessions_of, OnlySessions}

module _ (w : List ℕ) (d v : ℕ) (g : d < 16) (l : v < 8) where
  abbrev words_marked : List ℕ
  words_marked = set (set (set w (at UNREACHABLE + by_volume d v) 1) (at NOTES + by_volume d v) 0) (at BATCH + by_volume d v) 0

  place : by_volume d v < 128
  place = omega arith

  pub only_marked : OnlySessions w words_marked
  unfolding tables_of records_of
  only_marked = record {
    tables = λ x. rw (stored word_lengths _ BATCH (by_volume d v) 0 place, stored word_lengths _ NOTES (by_volume d v) 0 place, stored word_lengths w UNREACHABLE (by_volume d v) 1 place);
    records = λ x. rw (stored word_lengths _ BATCH (by_volume d v) 0 place, stored word_lengths _ NOTES (by_volume d v) 0 place, stored word_lengths w UNREACHABLE (by_volume d v) 1 place);
  }

  pub marks : sessions_of words_marked ≡ marked (sessions_of w) d v
  unfolding tables_of
  marks =
      rw (
        stored word_lengths _ BATCH (by_volume d v) 0 place,
        stored word_lengths _ NOTES (by_volume d v) 0 place,
        stored word_lengths w UNREACHABLE (by_volume d v) 1 place,
        flags_set (parts word_lengths w UNREACHABLE) (by_volume d v) 1,
      )
