use Rattle.bytes_layout.specs.Number.{limit}
use Rattle.file_records.proofs.BytesLaws.{step_stored}
use Rattle.file_records.proofs.bytes.write_step.Goals as goal

pub returns : goal.returns
unfolding limit
returns c = search step_stored
