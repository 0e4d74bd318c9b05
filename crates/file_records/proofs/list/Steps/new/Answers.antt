use Rattle.std.specs.Prelude.{replicate}
use Rattle.std.proofs.Common.{arith, ap}
use Rattle.file_records.proofs.list.Steps.new.Goals as goal
use Rattle.file_records.specs.Sizes.{STEPS}

pub invariant_of-result : goal.invariant_of-result
invariant_of-result c = (omega arith, λ i. STEPS, ap (replicate STEPS) c.no_step.ensures)
