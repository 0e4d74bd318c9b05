-- 01, "Frame, run file and listing": the number and the value of each answer. Contracts, ledger and listing speak through these.
use Rattle.std.specs.Prelude.{ℕ, Bool, cond, eqb}
use Rattle.protocol.specs.declared.step.Answer.{Answer}
use Rattle.protocol.specs.declared.step.Answer.TheVariants.{Done, Shown, AskFirst, Completed, Delivered, Refused}

-- 0 done, or 3: "at least one write completed, in whichever step"
abbrev pub done_or_completed : ℕ → ℕ
done_or_completed n = cond (eqb n 0) 0 3

-- "0 done, 1 shown, 2 ask first, 3 at least one write completed, 4 refused"
abbrev pub answer_number : Answer → ℕ
answer_number Done = 0
answer_number (Shown x) = 1
answer_number AskFirst = 2
answer_number (Completed n) = done_or_completed n
answer_number (Delivered m n) = done_or_completed n
answer_number (Refused k) = 4

-- "shown value, writes completed or refusal number, else 0"
abbrev pub answer_value : Answer → ℕ
answer_value Done = 0
answer_value (Shown x) = x
answer_value AskFirst = 0
answer_value (Completed n) = n
answer_value (Delivered m n) = n
answer_value (Refused k) = k

-- the number of writes completed that an answer reports
abbrev pub reported : Answer → ℕ
reported a = cond (eqb (answer_number a) 3) (answer_value a) 0

abbrev pub is_shown : Answer → Bool
is_shown a = eqb (answer_number a) 1

abbrev pub is_refused : Answer → Bool
is_refused a = eqb (answer_number a) 4

-- the answer of a clock step and of a write
abbrev pub completed_answer : ℕ → Answer
completed_answer n = cond (eqb n 0) Done (Completed n)
