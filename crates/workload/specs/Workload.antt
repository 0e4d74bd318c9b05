-- 02, A5: the steps of a workload.
use Rattle.std.specs.Prelude.{ℕ, zero, suc, cond, List, nat_le, Result, Ok, Err}
use Rattle.laws.specs.Tabulate.{tabulate}
use Rattle.protocol.specs.declared.refusal.Refusal.{Refusal}
use Rattle.protocol.specs.declared.refusal.Refusal.TheVariants as no
use Rattle.protocol.specs.declared.setup.Setup.{Setup}
use Rattle.protocol.specs.declared.step.Step.{Step}
use Rattle.protocol.specs.Setup.{in_range}
use Rattle.protocol.specs.Gate.{or_refuse}
use Rattle.file_writer.specs.File.{sizes_fit}
use Rattle.workload.specs.Draws.{draw, drawn_step, total_after}

-- The seed of step k, counted from 0: "Each step draws five times", and the last draw of the step before is the seed.
unfoldable pub seed_of : ℕ → ℕ → ℕ
seed_of s zero = s
seed_of s (suc k) = draw (seed_of s k) 5

-- The clock total before step k: "a total that starts at 0".
unfoldable pub total_of : Setup → ℕ → ℕ → ℕ
total_of q s zero = 0
total_of q s (suc k) = total_after (drawn_step q (seed_of s k) (total_of q s k)) (total_of q s k)

-- Step k of the workload.
abbrev pub step_of : Setup → ℕ → ℕ → Step
step_of q s k = drawn_step q (seed_of s k) (total_of q s k)

-- The first n steps of a seed: "the same long ride every time".
abbrev pub workload : Setup → ℕ → ℕ → List Step
workload q s n = tabulate (step_of q s) 0 n

-- "10 when more than 4,000 steps are wanted .., after 01's setup question"
unfoldable pub steps_refusal : Setup → ℕ → ℕ
steps_refusal q n = or_refuse (in_range q) 7 (or_refuse (nat_le n 4000) 10 0)

-- The same as a result: x if neither question is answered "no".
unfoldable pub unless_steps_refused : {A : Type 0} → Setup → ℕ → A → Result A Refusal
unless_steps_refused q n x = cond (in_range q) (cond (nat_le n 4000) (Ok x) (Err no.Parts)) (Err no.Setup)

-- The steps, or the refusal.
abbrev pub workload_of : Setup → ℕ → ℕ → Result (List Step) Refusal
workload_of q s n = unless_steps_refused q n (workload q s n)

-- The refusal of a workload's file, for an output of `room` bytes. It covers the file's size too: "the file would pass 65,536 bytes, or the output is
-- too short". No drawn step has an unused field that is not 0.
unfoldable pub file_refusal : ℕ → Setup → ℕ → ℕ → ℕ
file_refusal noteLength q n room = or_refuse (in_range q) 7 (or_refuse (sizes_fit noteLength n room) 10 0)
