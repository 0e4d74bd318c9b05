use Rattle.export_parts.proofs.Laws.{not_whole, too_many, whole}
use Rattle.export_parts.proofs.steps_lent.Goals as goal

pub returns-then-n-ne0 : goal.returns-then-n-ne0
returns-then-n-ne0 c = search not_whole

pub returns-then-n : goal.returns-then-n
returns-then-n c = search too_many

pub returns : goal.returns
returns c = search whole
