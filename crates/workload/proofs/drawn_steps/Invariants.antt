use Rattle.workload.proofs.Laws.{Drawing}
use Rattle.workload.proofs.drawn_steps.Given as goal

abbrev pub invariant-loop-k : goal.invariant-loop-k
invariant-loop-k l = Drawing l.setup l.seed l.steps l.last l.total l._k
