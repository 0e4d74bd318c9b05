use Rattle.gevtsomi.proofs.Laws.{why_told}
use Rattle.gevtsomi.proofs.gevtsomi_why.Goals as goal

pub returns : goal.returns
returns c = search why_told
