use Rattle.bytes_layout.proofs.Laws.{store_four}
use Rattle.bytes_layout.proofs.write_u32.Goals as goal

pub returns : goal.returns
returns c = search store_four
