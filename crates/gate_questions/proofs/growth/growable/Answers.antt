use Rattle.std.proofs.Common.{arith}
use Rattle.std.proofs.lemmas.Grind.{common_steps}
use Rattle.protocol.proofs.Ranges.{ranges}
use Rattle.protocol.specs.Gate.{growable}
use borrow.Author.Rules.{rules}
use Rattle.gate_questions.proofs.growth.growable.Goals as goal

pub epochs_grow-requires : goal.epochs_grow-requires
epochs_grow-requires c = let k = ranges _ c.requires in search rules

pub returns-in-Ok-Write : goal.returns-in-Ok-Write
unfolding growable
returns-in-Ok-Write c = grind (arith, common_steps)

pub returns-in-Ok-RestartServer : goal.returns-in-Ok-RestartServer
unfolding growable
returns-in-Ok-RestartServer c = grind (arith, common_steps)

pub returns-in-Ok-Ask : goal.returns-in-Ok-Ask
unfolding growable
returns-in-Ok-Ask c = grind (arith, common_steps)

pub returns-in_default : goal.returns-in_default
unfolding growable
returns-in_default c = grind (arith, common_steps)

pub returns-in_default-2 : goal.returns-in_default-2
unfolding growable
returns-in_default-2 c = grind (arith, common_steps)
