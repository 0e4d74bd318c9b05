use Rattle.server_marks.proofs.Marking.{marks, only_marked}
use borrow.Author.Rules.{rules}
use Rattle.server_marks.proofs.mark.Goals as goal

pub returns : goal.returns
returns c = record { words_after = marks _ _ _ (search rules) (search rules); only_sessions = only_marked _ _ _ (search rules) (search rules) }
