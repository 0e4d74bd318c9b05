use Rattle.std.proofs.Common.{arith}
use Rattle.std.proofs.lemmas.Grind.{common_steps}
use Rattle.gate.proofs.Questions.{asked_first}
use Rattle.gate.proofs.refusal.Goals as goal

pub returns-in_err-ask : goal.returns-in_err-ask
returns-in_err-ask c = rw asked_first (grind (arith, common_steps))

pub returns-in_err-ask-2 : goal.returns-in_err-ask-2
returns-in_err-ask-2 c = rw asked_first (grind (arith, common_steps))

pub returns : goal.returns
returns c = rw asked_first (grind (arith, common_steps))
