use Rattle.bytes_layout.proofs.OutputLaws.{part_read}
use Rattle.bytes_layout.proofs.read_bytes.Goals as goal

pub returns : goal.returns
returns g c = search part_read
