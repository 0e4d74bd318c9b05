use Rattle.server_marks.specs.SessionWords.{only_start}
use Rattle.server_ageing.proofs.Ageing.{ages_here}
use borrow.Author.Rules.{rules}
use Rattle.server_ageing.proofs.age_at.Goals as goal

pub returns-then-old-clause-words_after : goal.returns-then-old-clause-words_after
returns-then-old-clause-words_after c = ages_here c.args.setup _ _ _ _ _ _ (search rules) (search rules) c.ages-old.ensures (rw c.if-old.true c.mark.ensures.words_after)

pub returns-else-old : goal.returns-else-old
returns-else-old c = record { words_after = ages_here c.args.setup _ _ _ _ _ _ (search rules) (search rules) c.ages-old.ensures (rw c.if-old.false); only_sessions = only_start _ }
