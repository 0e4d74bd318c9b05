use Rattle.bytes_layout.proofs.Laws.{four}
use Rattle.bytes_layout.proofs.read_u32.Goals as goal

pub returns : goal.returns
returns c = search four
