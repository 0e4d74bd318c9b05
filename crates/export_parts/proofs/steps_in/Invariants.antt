use Rattle.std.proofs.Common.{◌≡◌}
use Rattle.laws.specs.Tabulate.{tabulate}
use Rattle.export_parts.specs.Lent.{step_lent}
use Rattle.export_parts.proofs.steps_in.Given as goal

abbrev pub invariant-loop-k : goal.invariant-loop-k
invariant-loop-k l = l.steps ≡ tabulate (step_lent l.records) 0 l.k
