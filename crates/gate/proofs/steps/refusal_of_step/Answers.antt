use Rattle.std.proofs.Common.{arith}
use Rattle.std.proofs.lemmas.Grind.{common_steps}
use Rattle.gate.proofs.Questions.{asked}
use Rattle.gate.proofs.steps.refusal_of_step.Goals as goal

pub returns-in_err-ask : goal.returns-in_err-ask
returns-in_err-ask c = rw asked (grind (arith, common_steps))

pub returns-in_err-ask-2 : goal.returns-in_err-ask-2
returns-in_err-ask-2 c = rw asked (grind (arith, common_steps))

pub returns-in_err-ask-3 : goal.returns-in_err-ask-3
returns-in_err-ask-3 c = rw asked (grind (arith, common_steps))

pub returns-in_err-ask-4 : goal.returns-in_err-ask-4
returns-in_err-ask-4 c = rw asked (grind (arith, common_steps))

pub returns : goal.returns
returns c = rw asked (grind (arith, common_steps))
