use Rattle.workload.proofs.DrawsLaws.{total_by}
use Rattle.workload.proofs.draws.total_after.Goals as goal

pub returns : goal.returns
returns c = search total_by
