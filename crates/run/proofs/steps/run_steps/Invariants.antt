use mathlib.Core.Path.{◌≡◌}
use lib.ListN.{length}
use Rattle.state_words.specs.Saved.{machine_of}
use Rattle.file_shape.specs.Places.{place_before}
use Rattle.run.specs.Ran.{Running}
use Rattle.run.proofs.steps.run_steps.Given as goal

abbrev pub invariant-loop-k : goal.invariant-loop-k
invariant-loop-k l =
    (l.place ≡ place_before l.file l.k)
    × ((length l.out ≡ length l.initial.out)
    × Running l.s l.file l.initial.out l.at (machine_of l.s l.words l.values l.saved l.saved_values) l.out l.next l.k)
