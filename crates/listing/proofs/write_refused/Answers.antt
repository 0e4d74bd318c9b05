use Rattle.listing.proofs.Laws.{refused_fits, refused_written}
use borrow.Author.Rules.{rules}
use Rattle.listing.proofs.write_refused.Goals as goal

pub write_numbers-requires : goal.write_numbers-requires
write_numbers-requires c = search (refused_fits, rules)

pub returns : goal.returns
returns c = search refused_written
