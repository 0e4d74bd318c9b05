use native.Mathlib.Omega.{arith}
use Rattle.file_writer.proofs.Laws.{too_many, too_long, no_room, by_steps}
use Rattle.file_writer.proofs.file_fits.Goals as goal

pub returns-then-steps-gt-STEPS : goal.returns-then-steps-gt-STEPS
returns-then-steps-gt-STEPS c = search too_many

pub returns-then-note_len-gt-FILE : goal.returns-then-note_len-gt-FILE
returns-then-note_len-gt-FILE c = too_long _ _ _ c.if-steps-gt-STEPS.false (omega (arith, c.if-note_len-gt-FILE.true))

pub returns-then-length-gt-FILE : goal.returns-then-length-gt-FILE
returns-then-length-gt-FILE c = search too_long

pub returns-then-room-length : goal.returns-then-room-length
returns-then-room-length c = search no_room

pub returns : goal.returns
returns c = search by_steps
