use Rattle.file_reader.proofs.Laws.{note_long, formed_by, note_yes, note_no}
use borrow.Author.Rules.{rules}
use Rattle.file_reader.proofs.note.Goals as goal

pub setup_place-at-requires : goal.setup_place-at-requires
setup_place-at-requires c = search (formed_by, rules)

pub slice_bounds-result-end : goal.slice_bounds-result-end
slice_bounds-result-end c = search (note_long, rules)

pub returns-then-well_formed : goal.returns-then-well_formed
returns-then-well_formed c = search note_yes

pub returns : goal.returns
returns c = search note_no
