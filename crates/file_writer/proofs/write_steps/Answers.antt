use native.Mathlib.Omega.{arith}
use Rattle.std.proofs.lemmas.List.{get_or_default}
use Rattle.file_writer.proofs.Laws.{steps_none, step_fits_law, steps_again, steps_end}
use Rattle.file_writer.proofs.write_steps.Goals as goal

pub loop-step-init : goal.loop-step-init
loop-step-init c = search steps_none

pub write_step-place-requires : goal.write_step-place-requires
write_step-place-requires c =
    step_fits_law _ _ _ _ _ _ c.loop-step.invariant (omega arith) c.loop-step-test.true c.requires

pub loop-step-preserved : goal.loop-step-preserved
loop-step-preserved c =
    steps_again _ _ _ _ _ _ c.loop-step.invariant (omega arith) _ _ _ c.loop-step-test.true
    (get_or_default _ _ _ _ c.loop-step-test.true) c.write_step-place.ensures.written c.write_step-place.ensures.widths

pub returns : goal.returns
returns c =
    let all = steps_end _ _ _ _ _ _ c.loop-step.invariant (omega arith) c.loop-step-test.false in
    record { written = all.0; widths = all.1 }
