use Rattle.std.proofs.Common.{arith}
use Rattle.std.proofs.lemmas.Grind.{common_steps}
use Rattle.step_saved.specs.Plan.{plan_of}
use Rattle.step_saved.proofs.plan.planned.Goals as goal

pub returns-then-uses_name-by_one : goal.returns-then-uses_name-by_one
unfolding plan_of
returns-then-uses_name-by_one c = grind (arith, common_steps)

pub returns : goal.returns
unfolding plan_of
returns c = grind (arith, common_steps)
