-- Machine, lines and ledger go together: each state is the run of its line, with the answers of the run, and the ledger saved with it is the line's.
-- Letters: s setup, q a machine, x a step, n its number, a its answer, e its entry, l a line, k the lines, b the ledger's books, c those with the saved ones.
use Rattle.std.specs.Prelude.{◌≡◌}
use mathlib.Core.List.{List}
use Rattle.laws.specs.Line.{Kept, kept_as, OfEach}
use Rattle.protocol.specs.declared.setup.Setup.{Setup}
use Rattle.protocol.specs.World.{fresh_world, answers}
use Rattle.protocol.specs.Ledger.{Books}
use Rattle.protocol.specs.Saved.{Machine}
use Rattle.protocol.specs.Line.{Entry, steps_in, answers_in, ran_by, booked_by}
use Rattle.protocol.specs.SavedLaws.{SoundMachine}

-- ---- a line that grows by an entry
-- the answers in a line are those of its run
abbrev pub Given : Setup → List Entry → Type 0
Given s l = answers_in l ≡ answers s (fresh_world s) (steps_in l)

-- ---- together
pub record Joined (s : Setup) (q : Machine) (k : Kept (List Entry)) (c : Kept Books) : Type 0 where
  pub sound : SoundMachine s q
  pub runs : q ≡ kept_as (ran_by s) k
  pub given : OfEach (Given s) k
  pub books : c ≡ kept_as (booked_by s) k
