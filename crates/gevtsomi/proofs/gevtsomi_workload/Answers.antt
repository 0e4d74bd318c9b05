use Rattle.gevtsomi.proofs.Laws.{told_all}
use Rattle.gevtsomi.proofs.gevtsomi_workload.Goals as goal

pub returns : goal.returns
returns c = search told_all
