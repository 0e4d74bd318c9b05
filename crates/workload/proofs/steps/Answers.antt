use Rattle.std.proofs.lemmas.Result.{err_from_is_err_and}
use Rattle.workload.proofs.Laws.{refused_alike_err, both_answered, steps_given}
use Rattle.workload.proofs.steps.Goals as goal

pub returns-in_err-refusal : goal.returns-in_err-refusal
returns-in_err-refusal c =
    let p = err_from_is_err_and c.from_residual.result c.from_residual.ensures.1 in
    rw (p.1, p.2) (refused_alike_err _ _ _ _ _ c.in_err-refusal.ensures)

pub drawn_steps-requires : goal.drawn_steps-requires
drawn_steps-requires c =
    let all = both_answered _ _ _ _ c.in_ok-refusal.ensures in
    record { setup_value = all.0; count_bound = all.1 }

pub returns : goal.returns
returns c = steps_given _ _ _ _ _ _ c.in_ok-refusal.ensures c.drawn_steps.ensures
