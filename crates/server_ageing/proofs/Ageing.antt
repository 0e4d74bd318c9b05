-- Whether there are notes, and whether they are old, as read from the words.
use Prim.Native.Nat.{ℕ, ◌+◌, ◌<◌, ◌≤◌}
use native.Mathlib.Omega.{arith}
use mathlib.Core.Bool.{Bool, cond}
use mathlib.Core.List.{List}
use mathlib.Core.Path.{◌≡◌, ◌∙◌}
use lib.Dec.{eqb}
use lib.ListN.{get_or}
use Rattle.laws.specs.Parts.{part_at}
use Rattle.protocol.specs.declared.setup.Setup.{Setup}
use Rattle.protocol.specs.declared.tables.Sessions.{Sessions}
use Rattle.protocol.specs.Tables.{by_volume}
use Rattle.protocol.specs.Writes.{marked, age_at}
use Rattle.lease_tests.specs.Parts.{ages_by}
use Rattle.state_words.specs.Fields.{word_lengths, at, SESSION_EXPIRY, NOTES}
use Rattle.state_words.specs.View.{tables_of}
use Rattle.server_marks.specs.SessionWords.{sessions_of}
use Rattle.server_ageing.specs.NoNotes.{none_at}

pub none_here : (w : List ℕ) (i n : ℕ) → i < n → n ≤ 128 → eqb (get_or w (at NOTES + i) 0) 0 ≡ none_at (sessions_of w) i
unfolding tables_of
none_here w i n h k = rw (part_at word_lengths w NOTES i (omega arith))

pub ages_here : (s : Setup) (w : List ℕ) (clock d v : ℕ) (r : Bool) (y : Sessions) → d < 16 → v < 8
    → r ≡ ages_by clock (get_or w (at NOTES + by_volume d v) 0) (get_or w (at SESSION_EXPIRY + by_volume d v) 0) s.delay
    → y ≡ cond r (marked (sessions_of w) d v) (sessions_of w) → y ≡ age_at s clock d (sessions_of w) v
unfolding tables_of
ages_here s w clock d v r y g l e f =
    f ∙ rw (e, part_at word_lengths w NOTES (by_volume d v) (omega arith), part_at word_lengths w SESSION_EXPIRY (by_volume d v) (omega arith))
