use Rattle.std.proofs.Common.{arith}
use Rattle.std.proofs.lemmas.Grind.{common_steps}
use Rattle.reason.proofs.Laws.{given, refused}
use Rattle.reason.proofs.why.Goals as goal

pub returns-in_err-c : goal.returns-in_err-c
returns-in_err-c c = grind (arith, common_steps, refused)

pub returns : goal.returns
returns c = grind (arith, common_steps, given)
