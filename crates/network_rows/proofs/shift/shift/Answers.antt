use Rattle.std.proofs.Common.{arith}
use Rattle.network_rows.proofs.Moved.{moved}
use Rattle.network_rows.proofs.shift.shift.Goals as goal

pub returns : goal.returns
returns g c = λ d. moved _ _ d _ _ _ _ _ (omega arith) c.requires c.copy_within.ensures.len c.copy_within.ensures.by_index
