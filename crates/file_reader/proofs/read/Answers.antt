use Rattle.file_reader.proofs.Laws.{formed_by, setup_there, read_yes, read_no}
use borrow.Author.Rules.{rules}
use Rattle.file_reader.proofs.read.Goals as goal

pub returns-then-not-well_formed : goal.returns-then-not-well_formed
returns-then-not-well_formed c = search read_no

pub setup_place-at-requires : goal.setup_place-at-requires
setup_place-at-requires c = search (formed_by, rules)

pub setup_in-requires : goal.setup_in-requires
setup_in-requires c = search (setup_there, rules)

pub count_of-requires : goal.count_of-requires
count_of-requires c = search (formed_by, rules)

pub returns : goal.returns
returns c = search read_yes
