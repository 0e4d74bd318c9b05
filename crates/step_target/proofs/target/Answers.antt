use Rattle.std.proofs.Common.{arith}
use Rattle.std.proofs.lemmas.Grind.{common_steps}
use Rattle.protocol.specs.World.{target}
use Rattle.step_target.proofs.target.Goals as goal
use Rattle.step_target.proofs.target.Goals.{in_default-via-in-Ok+in_default, in_default-via-in_default}

pub returns-in-Ok-Deliver : goal.returns-in-Ok-Deliver
unfolding target
returns-in-Ok-Deliver c = grind (arith, common_steps)

pub returns-in_default : goal.returns-in_default
unfolding target
returns-in_default c = elim c.in_default.branch [ in_default-via-in-Ok+in_default w ↦ grind (arith, common_steps) | in_default-via-in_default w ↦ grind (arith, common_steps) ]
