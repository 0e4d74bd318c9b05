use Rattle.std.proofs.Common.{ap, set}
use Rattle.laws.specs.Loop.{fold_again, fold_end}
use Rattle.client_lent.proofs.Laws.{sweep_stops}
use Rattle.client_lent.proofs.sweep.sweep.Goals as goal

pub loop-k-init : goal.loop-k-init
loop-k-init c = rw c.stop_at-to.ensures.place (sweep_stops _ _ _ _)

pub loop-k-preserved : goal.loop-k-preserved
loop-k-preserved c = fold_again _ _ _ _ _ _ c.loop-k-test.true (ap (set _ _) c.swept_at.ensures) c.loop-k.invariant

pub returns : goal.returns
returns c = search fold_end
