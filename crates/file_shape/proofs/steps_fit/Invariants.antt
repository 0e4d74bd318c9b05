use Rattle.std.proofs.Common.{◌≡◌}
use Rattle.file_shape.specs.Places.{place_before}
use Rattle.file_shape.proofs.Laws.{Asked}
use Rattle.file_shape.proofs.steps_fit.Given as goal

abbrev pub invariant-loop-k : goal.invariant-loop-k
invariant-loop-k l = (l.place ≡ place_before l.file l._k) × Asked l.file l.ok l._k
