use Rattle.bytes_layout.proofs.Laws.{store_eight}
use Rattle.bytes_layout.proofs.write_u64.Goals as goal

pub returns : goal.returns
returns c = search store_eight
