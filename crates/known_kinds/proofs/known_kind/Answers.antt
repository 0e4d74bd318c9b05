use Rattle.std.proofs.Common.{arith}
use Rattle.std.proofs.lemmas.Grind.{common_steps}
use Rattle.protocol.specs.Gate.{known}
use Rattle.protocol.specs.Saved.{known_kind}
use Rattle.known_kinds.proofs.known_kind.Goals as goal

pub returns : goal.returns
unfolding known_kind known
returns c = grind (arith, common_steps)
