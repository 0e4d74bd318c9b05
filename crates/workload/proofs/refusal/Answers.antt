use Rattle.workload.proofs.Laws.{accepted, too_many, out_of_range}
use Rattle.workload.proofs.refusal.Goals as goal

pub returns-then-not-in_range : goal.returns-then-not-in_range
returns-then-not-in_range c = search out_of_range

pub returns-then-count-gt-STEPS : goal.returns-then-count-gt-STEPS
returns-then-count-gt-STEPS c = search too_many

pub returns : goal.returns
returns c = search accepted
