use Rattle.std.proofs.Common.{◌≡◌, ◌-◌}
use Rattle.laws.specs.Loop.{fold_from}
use Rattle.protocol.specs.Client.{sweep_at, swept_all}
use Rattle.client_lent.proofs.sweep.sweep.Given as goal

abbrev pub invariant-loop-k : goal.invariant-loop-k
invariant-loop-k l = fold_from (sweep_at l.setup l.g l.first) l.copies l.k (l.to - l.k) ≡ swept_all l.setup l.g l.first l.fn.copies
