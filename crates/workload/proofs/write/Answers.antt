use Rattle.std.proofs.lemmas.Result.{err_from_is_err_and}
use Rattle.workload.proofs.Laws.{refused_alike_err, both_answered, steps_given, file_written, file_refused}
use Rattle.workload.proofs.write.Goals as goal

pub returns-in_err-refusal : goal.returns-in_err-refusal
returns-in_err-refusal c =
    let p = err_from_is_err_and c.from_residual.result c.from_residual.ensures.1 in
    rw (p.1, p.2) (file_refused _ _ _ _ _ _ (refused_alike_err _ _ _ _ _ c.in_err-refusal.ensures))

pub drawn_steps-steps-requires : goal.drawn_steps-steps-requires
drawn_steps-steps-requires c =
    let all = both_answered _ _ _ _ c.in_ok-refusal.ensures in
    record { setup_value = all.0; count_bound = all.1 }

pub returns : goal.returns
returns c =
    file_written _ _ _ _ _ _ _ _ _ (steps_given _ _ _ _ _ _ c.in_ok-refusal.ensures c.drawn_steps-steps.ensures) c.as_slice.ensures
    c.write.ensures.reports
