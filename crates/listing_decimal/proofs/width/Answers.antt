use Rattle.listing_decimal.proofs.Laws.{width_is}
use Rattle.listing_decimal.proofs.width.Goals as goal

pub returns : goal.returns
returns c = rw c.unwrap_or.ensures (search width_is)
