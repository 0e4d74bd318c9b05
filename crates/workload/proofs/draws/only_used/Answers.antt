use Rattle.workload.proofs.DrawsLaws.{used_by}
use Rattle.workload.proofs.draws.only_used.Goals as goal

pub returns : goal.returns
returns c = search used_by
