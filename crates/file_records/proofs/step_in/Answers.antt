use Rattle.file_records.proofs.Laws.{step_by}
use Rattle.file_records.proofs.step_in.Goals as goal

pub returns : goal.returns
returns c = search step_by
