use Rattle.file_records.proofs.Laws.{setup_by}
use Rattle.file_records.proofs.setup_in.Goals as goal

pub returns : goal.returns
returns c = search setup_by
