-- 02, A7: the edges of its questions and of what a save and a return leave, one table of equations computed by one theorem.
-- Letters: q a machine, n a name, x a step, t tables.
use Rattle.std.specs.Prelude.{ℕ, List, [], ◌∷◌, ◌≡◌, replicate}
use Rattle.laws.specs.Line.{Saved, never, state, saved_under}
use Rattle.protocol.specs.declared.step.Step.{Step}
use Rattle.protocol.specs.Tables.{with_clock, fresh_tables}
use Rattle.protocol.specs.World.{World, fresh_world}
use Rattle.protocol.specs.Edges.{tiny, step, clock, lose}
use Rattle.protocol.specs.Saved.{Machine, fresh_machine, refusal_in, moved_by}

unfoldable pub save : ℕ → Step
save n = step 10 n 0 0

unfoldable pub return : ℕ → Step
return n = step 11 n 0 0

unfoldable pub fresh : Machine
fresh = fresh_machine tiny

unfoldable pub after : List Step → Machine
after xs = moved_by tiny fresh xs

unfoldable pub refused : Machine → Step → ℕ
refused q x = refusal_in tiny q x

-- the clock of now, and that of what is saved under a name; 9 where nothing is
unfoldable pub clock_of : Machine → ℕ
clock_of q = q.now.tables.clock

unfoldable pub clock_under : Saved World → ℕ
clock_under never = 9
clock_under (state w) = w.tables.clock

unfoldable pub saved_clock : Machine → ℕ → ℕ
saved_clock q n = clock_under (saved_under q n)

-- past the greatest clock, in the present state or in one that is saved
unfoldable pub too_late : World
too_late = record { tables = with_clock fresh_tables 2147483648; copies = (fresh_world tiny).copies; requests = (fresh_world tiny).requests }

unfoldable pub unsound_now : Machine
unsound_now = record { now = too_late; saved = replicate 4 never }

unfoldable pub unsound_saved : Machine
unsound_saved = record { now = fresh_world tiny; saved = never ∷ never ∷ never ∷ state too_late ∷ [] }

unfoldable pub SavedTable : Type 0
SavedTable =
    -- "Give four named states, 0 to 3", "11 when the name is above 3"
    (refused fresh (save 0) ≡ 0) × (refused fresh (save 3) ≡ 0) × (refused fresh (save 4) ≡ 11) × (refused fresh (save 255) ≡ 11)
    -- "or, for a return, was never saved"
    × (refused fresh (return 3) ≡ 11) × (refused (after (save 3 ∷ [])) (return 3) ≡ 0) × (refused (after (save 3 ∷ [])) (return 2) ≡ 11)
    × (refused (after (save 3 ∷ [])) (return 4) ≡ 11)
    -- "after the kind question"; the place of any other step is one of the message list
    × (refused fresh (step 12 4 0 0) ≡ 2) × (refused fresh (lose 4) ≡ 3)
    -- "A saved state must be sound too, else 1", whatever the step; a name that was never saved asks nothing
    × (refused unsound_now (save 0) ≡ 1) × (refused unsound_saved (clock 0) ≡ 1) × (refused unsound_saved (save 4) ≡ 1) × (refused unsound_saved (step 12 0 0 0) ≡ 1)
    × (refused fresh (clock 0) ≡ 0)
    -- a save replaces, and leaves the other names and the present state as they are
    × (saved_clock (after (save 1 ∷ clock 5 ∷ save 0 ∷ clock 6 ∷ save 1 ∷ [])) 1 ≡ 6) × (saved_clock (after (save 1 ∷ clock 5 ∷ save 0 ∷ [])) 1 ≡ 0)
    × (saved_clock (after (save 1 ∷ [])) 0 ≡ 9) × (clock_of (after (clock 5 ∷ save 1 ∷ [])) ≡ 5)
    -- "Returning restores .. clock exactly, but not the four saved states", and the state is there for another return
    × (clock_of (after (save 1 ∷ clock 5 ∷ save 0 ∷ return 1 ∷ [])) ≡ 0) × (saved_clock (after (save 1 ∷ clock 5 ∷ save 0 ∷ return 1 ∷ [])) 0 ≡ 5)
    × (clock_of (after (save 1 ∷ clock 5 ∷ return 1 ∷ clock 3 ∷ return 1 ∷ [])) ≡ 0)
    -- a refused save or return changes nothing
    × (after (save 4 ∷ []) ≡ fresh) × (after (return 0 ∷ []) ≡ fresh)
