use Rattle.step_verdict.proofs.Answering.{none_completed, some_completed}
use Rattle.step_verdict.proofs.counting.Goals as goal

pub returns-then-n-eq0 : goal.returns-then-n-eq0
returns-then-n-eq0 c = none_completed _ _ c.if-n-eq0.true c.keeping.ensures

pub returns : goal.returns
returns c = some_completed _ _ c.if-n-eq0.false c.keeping-2.ensures
