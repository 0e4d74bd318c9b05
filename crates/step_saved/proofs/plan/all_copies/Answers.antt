use Rattle.gate_records.specs.Counts.{mul_fits}
use borrow.Author.Rules.{rules}
use Rattle.step_saved.proofs.plan.all_copies.Goals as goal

pub overflow_mul-result : goal.overflow_mul-result
overflow_mul-result c = search (rules, mul_fits)
