use Rattle.step_target.proofs.Targets.{byte_times}
use borrow.Author.Rules.{rules}
use Rattle.step_target.proofs.target_at.Goals as goal

pub overflow_mul-first : goal.overflow_mul-first
overflow_mul-first c = let k = byte_times c.args.client c.args.setup.objects (search rules) (search rules) in search rules

pub overflow_add-result : goal.overflow_add-result
overflow_add-result c = let k = byte_times c.args.client c.args.setup.objects (search rules) (search rules) in search rules
