use Rattle.std.proofs.Common.{arith}
use Rattle.std.proofs.lemmas.Bool.Decides.{nat_tests}
use Rattle.message_fields.specs.Questions.{right}
use Rattle.message_fields.proofs.Questions.{asked}
use Rattle.message_fields.proofs.sound.Goals as goal

pub returns-in_default : goal.returns-in_default
unfolding right
returns-in_default c = rw (asked c.args.f) (grind (arith, nat_tests))
