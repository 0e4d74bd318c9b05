use Rattle.workload.proofs.DrawsLaws.{byte_left}
use Rattle.workload.proofs.draws.remainder.Goals as goal

pub overflow_cast-result : goal.overflow_cast-result
overflow_cast-result c = search byte_left
