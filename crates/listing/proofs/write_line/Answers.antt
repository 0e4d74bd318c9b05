use Rattle.listing.proofs.Laws.{answer_written}
use Rattle.listing.proofs.write_line.Goals as goal

pub returns : goal.returns
returns c = search answer_written
