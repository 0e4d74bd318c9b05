-- 01, "Frame, run file and listing": the number and the value of a step's answer, as functions of the step's input.
-- Letters: s setup, w world, q a machine, x a step, t tables, c a copy, r a request.
use Rattle.std.specs.Prelude.{ℕ, cond, eqb}
use Rattle.protocol.specs.declared.records.Copy.{Copy}
use Rattle.protocol.specs.declared.records.Request.{Request}
use Rattle.protocol.specs.declared.setup.Setup.{Setup}
use Rattle.protocol.specs.declared.step.Step.{Step}
use Rattle.protocol.specs.declared.tables.Tables.{Tables}
use Rattle.protocol.specs.Messages.{message_at}
use Rattle.protocol.specs.Writes.{settled, write_staged, clock_staged}
use Rattle.protocol.specs.Client.{showable}
use Rattle.protocol.specs.Answers.{done_or_completed}
use Rattle.protocol.specs.Gate.{is_clock, is_read, is_write, is_deliver}
use Rattle.protocol.specs.Decide.{received, taken}
use Rattle.protocol.specs.Saved.{Machine, uses_name, refusal_in}
use Rattle.protocol.specs.Soundness.StepCases.{copy_of, request_of}

-- "writes completed": by a clock step, a write or a delivery
unfoldable pub completed_in : Setup → Tables → Copy → Request → Step → ℕ
completed_in s t c r x =
    cond (is_clock x) (settled s (clock_staged s t x.clock)).count
    (cond (is_write x) (settled s (write_staged s t x.object x.value)).count
    (cond (is_deliver x) (received s (taken t x.place) c r (message_at t.queue x.place).client (message_at t.queue x.place).kind).counted.count 0))

-- the number of an accepted step's answer: "0 done, 1 shown, 2 ask first, 3 at least one write completed, in whichever step"
unfoldable pub accepted_number : Setup → Tables → Copy → Request → Step → ℕ
accepted_number s t c r x = cond (is_read x) (cond (showable s t c x.client x.object) 1 2) (done_or_completed (completed_in s t c r x))

-- the value of an accepted step's answer: "shown value, writes completed .. else 0"
unfoldable pub accepted_value : Setup → Tables → Copy → Request → Step → ℕ
accepted_value s t c r x = cond (is_read x) (cond (showable s t c x.client x.object) c.value 0) (completed_in s t c r x)

-- number and value for a step on a machine (02, A7); an accepted save or return has "0 done" and 0, a refused step "4 refused" and the "refusal number"
unfoldable pub number_of : Setup → Machine → Step → ℕ
number_of s q x = cond (eqb (refusal_in s q x) 0) (cond (uses_name x) 0 (accepted_number s q.now.tables (copy_of s q.now x) (request_of s q.now x) x)) 4

unfoldable pub value_of : Setup → Machine → Step → ℕ
value_of s q x =
    cond (eqb (refusal_in s q x) 0) (cond (uses_name x) 0 (accepted_value s q.now.tables (copy_of s q.now x) (request_of s q.now x) x)) (refusal_in s q x)
