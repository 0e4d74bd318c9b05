use Rattle.std.proofs.lemmas.Result.{err_from_is_err_and}
use Rattle.gevtsomi.proofs.Laws.{workload_setup_told, workload_told}
use Rattle.gevtsomi.proofs.workload_lent.Goals as goal

pub returns-in_err-setup : goal.returns-in_err-setup
returns-in_err-setup c =
    let p = err_from_is_err_and c.from_residual.result c.from_residual.ensures.1 in
    rw (p.1, p.2) (workload_setup_told _ _ _ _ _ _ c.in_err-setup.ensures)

pub returns : goal.returns
returns c = workload_told _ _ _ _ _ _ c.in_ok-setup.ensures _ _ c.write.ensures
