use Rattle.bytes_layout.proofs.OutputLaws.{part_written}
use Rattle.bytes_layout.proofs.output.write_bytes.Goals as goal

pub returns : goal.returns
returns c = search part_written
