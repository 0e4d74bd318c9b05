use mathlib.Core.Path.{◌≡◌}
use Rattle.state_words.specs.Saved.{machine_of}
use Rattle.file_shape.specs.Places.{place_before}
use Rattle.file_reader.specs.Steps.{steps_of}
use Rattle.reason.specs.Followed.{Following}
use Rattle.reason.proofs.steps.run_until.Given as goal

abbrev pub invariant-loop-k : goal.invariant-loop-k
invariant-loop-k l =
    (l.place ≡ place_before l.file l.k)
    × Following l.s (steps_of l.file) l.read (machine_of l.s l.words l.values l.saved l.saved_values) l.lasts l.k
