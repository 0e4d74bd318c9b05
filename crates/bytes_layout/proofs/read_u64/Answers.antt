use Rattle.bytes_layout.proofs.Laws.{eight}
use Rattle.bytes_layout.proofs.read_u64.Goals as goal

pub returns : goal.returns
returns c = search eight
