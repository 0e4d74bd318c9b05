use Rattle.std.proofs.Common.{◌≡◌, true, false, rules}
use Rattle.std.proofs.lemmas.Result.{err_from_is_err_and}
use Rattle.protocol.specs.Setup.{in_range}
use Rattle.gevtsomi.proofs.Laws.{setup_told, outside_told, records_told, file_told}
use Rattle.gevtsomi.proofs.write_lent.Goals as goal

pub returns-in_err-setup : goal.returns-in_err-setup
returns-in_err-setup c =
    let p = err_from_is_err_and c.from_residual.result c.from_residual.ensures.1 in
    rw (p.1, p.2) (setup_told _ _ _ _ _ c.in_err-setup.ensures)

pub returns-then-not-in_range : goal.returns-then-not-in_range
returns-then-not-in_range c =
    let f : in_range c.in_ok-setup.setup ≡ false = search rules in
    outside_told _ _ _ _ _ c.in_ok-setup.ensures f

pub returns-in_err-steps : goal.returns-in_err-steps
returns-in_err-steps c =
    let p = err_from_is_err_and c.from_residual-in_err-steps.result c.from_residual-in_err-steps.ensures.1 in
    let f : in_range c.in_ok-setup.setup ≡ true = search rules in
    rw (p.1, p.2) (records_told _ _ _ _ _ _ c.in_ok-setup.ensures f c.in_err-steps.ensures)

pub returns : goal.returns
returns c = file_told _ _ _ _ _ _ c.in_ok-setup.ensures _ _ _ c.in_ok-steps.ensures c.as_slice.ensures c.write.ensures.reports
