use Rattle.std.proofs.Common.{arith}
use Rattle.std.proofs.lemmas.Grind.{common_steps}
use Rattle.step_saved.specs.Plan.{act_by_name}
use Rattle.step_saved.proofs.plan.act_by_name.Goals as goal

pub returns-then-eq : goal.returns-then-eq
unfolding act_by_name
returns-then-eq c = grind (arith, common_steps)

pub returns-then-is_saved : goal.returns-then-is_saved
unfolding act_by_name
returns-then-is_saved c = grind (arith, common_steps)

pub returns-else-is_saved : goal.returns-else-is_saved
unfolding act_by_name
returns-else-is_saved c = grind (arith, common_steps)

pub returns-else-name-lt-NAMES : goal.returns-else-name-lt-NAMES
unfolding act_by_name
returns-else-name-lt-NAMES c = grind (arith, common_steps)
