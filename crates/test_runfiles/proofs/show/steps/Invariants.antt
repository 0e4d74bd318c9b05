use Rattle.std.proofs.Common.{◌≡◌}
use Rattle.file_shape.specs.Places.{place_before}
use Rattle.test_runfiles.proofs.show.steps.Given as goal

-- The running place is that of record k.
abbrev pub invariant-loop-k : goal.invariant-loop-k
invariant-loop-k g l = l.place ≡ place_before l.f l.k
