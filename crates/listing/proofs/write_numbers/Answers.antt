use Rattle.listing.proofs.Laws.{second_fits, third_fits, line_written}
use borrow.Author.Rules.{rules}
use Rattle.listing.proofs.write_numbers.Goals as goal

pub write_field-third-requires : goal.write_field-third-requires
write_field-third-requires c = search (second_fits, rules)

pub write_field-requires : goal.write_field-requires
write_field-requires c =
    third_fits _ _ _ _ _ _ _ _ c.requires
    c.write_field-second.ensures
    c.write_field-third.ensures

pub returns : goal.returns
returns c = search line_written
