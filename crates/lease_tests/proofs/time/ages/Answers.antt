use Rattle.lease_tests.proofs.Laws.{not_yet, by_difference}
use Rattle.lease_tests.proofs.time.ages.Goals as goal

pub returns-then-clock-delay : goal.returns-then-clock-delay
returns-then-clock-delay c = search not_yet

pub returns : goal.returns
returns c = search by_difference
