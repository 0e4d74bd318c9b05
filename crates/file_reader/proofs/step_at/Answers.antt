use Rattle.file_reader.proofs.Laws.{no_record, in_file}
use native.Mathlib.Omega.{arith}
use Rattle.file_reader.proofs.step_at.Goals as goal

pub returns-then-n-lt-STEP : goal.returns-then-n-lt-STEP
returns-then-n-lt-STEP c = no_record _ _ _ (omega (arith, c.if-n-lt-STEP.true)) c.no_step.ensures

pub returns-then-n-place : goal.returns-then-n-place
returns-then-n-place c = no_record _ _ _ (omega (arith, c.if-n-place.true)) c.no_step-then-n-place.ensures

pub returns : goal.returns
returns c = in_file _ _ _ (omega (arith, c.if-n-place.false)) c.step_in.ensures
