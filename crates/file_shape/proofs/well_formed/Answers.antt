use Rattle.file_shape.proofs.Laws.{parts_by, by_contents, not_measured}
use borrow.Author.Rules.{rules}
use Rattle.file_shape.proofs.well_formed.Goals as goal

pub contents_fit-requires : goal.contents_fit-requires
contents_fit-requires c = search (parts_by, rules)

pub returns-then-measured : goal.returns-then-measured
returns-then-measured c = search by_contents

pub returns-else-measured : goal.returns-else-measured
returns-else-measured c = search not_measured
