use Rattle.listing.specs.Listing.{header}
use borrow.Author.Rules.{rules}
use Rattle.listing.proofs.write_header.Goals as goal

pub returns : goal.returns
unfolding header
returns c = search rules
