-- Demand 3: one theorem about every setup and every list of steps, and the same in words that need neither the ledger nor the invariant.
use Rattle.std.specs.Prelude.{true, false, List, ◌≡◌, refl}
use Rattle.laws.specs.Lists.{All}
use Rattle.laws.specs.Line.{Saved, never, state, saved_as, under_as, OfSaved, each_under}
use Rattle.protocol.specs.declared.setup.Setup.{Setup}
use Rattle.protocol.specs.declared.step.Answer.{Answer}
use Rattle.protocol.specs.declared.step.Step.{Step}
use Rattle.protocol.specs.Setup.{in_range}
use Rattle.protocol.specs.World.{fresh_world, ran, answers}
use Rattle.protocol.specs.Agreement.{AgreesThroughout}
use Rattle.protocol.specs.History.{HistoryAgrees}
use Rattle.protocol.proofs.History.StepsLawful.{history_agrees}
use Rattle.protocol.proofs.Ranges.{ranges}
use Rattle.protocol.specs.Soundness.Question.{RefusedOne}
use Rattle.protocol.proofs.Soundness.Question.{question_one_never, question_one_always}
use Rattle.protocol.specs.Bookkeeping.Agreed.{Invariant}
use Rattle.protocol.proofs.Bookkeeping.Agreed.{agrees_throughout}
use Rattle.protocol.specs.Safety.Invariant.{Inv}
use Rattle.protocol.proofs.Safety.Fresh.{fresh_inv}
use Rattle.protocol.proofs.Safety.InvariantKept.{step_keeps, reads_current}
use Rattle.protocol.specs.Saved.{fresh_machine, moved_by, answers_to}
use Rattle.protocol.specs.Line.{Entry, entries, step_lines, present_line, saved_line, steps_in, accounts, ran_by, booked_by, LineAgrees, SavedAgrees, AgreesAlong}
use Rattle.protocol.proofs.SavedLaws.{fresh_machine_sound, one_never, one_always}
use Rattle.protocol.specs.Along.{Given, Joined}
use Rattle.protocol.proofs.Along.{run_joined}

-- the lease-safety invariant: it holds of fresh tables, every step keeps it, and under it every client reads what is current
pub leases_safe : (s : Setup) → in_range s ≡ true → Invariant s (Inv s)
leases_safe s i = record { fresh = fresh_inv s (ranges s i); kept = step_keeps s; current = reads_current s i }

-- From fresh tables, with no message and no copy, the program agrees with the ledger after every step of the list, refused ones included.
pub demand_3 : (s : Setup) (xs : List Step) → AgreesThroughout s xs
demand_3 s xs = agrees_throughout s (Inv s) (leases_safe s) xs

-- The same of the history of a run, in which every read shown and every accepted clock step, write and server restart stands in its turn: "every copy
-- shown is the value of the last write to that notice completed before it, or zero"; every accepted write not cut off is complete by the end of the
-- first accepted clock step past its latest end; accepted = completed + cut off + still open
pub demand_3_in_words : (s : Setup) → in_range s ≡ true → (xs : List Step) → HistoryAgrees s xs (answers s (fresh_world s) xs) (ran s (fresh_world s) xs)
demand_3_in_words s i xs = history_agrees s (Inv s) (leases_safe s i) i xs

-- 02, A7: the present state and each saved one agree with their ledger along their line, "never across the abandoned branch". This is about every list of
-- steps, and so holds after each step of a list.
module _ (s : Setup) (i : in_range s ≡ true) where
  line_agrees : (l : List Entry) → Given s l → LineAgrees s l (ran_by s l) (booked_by s l)
  line_agrees l g = record { runs = refl; given = g; ledger = refl; agrees = demand_3 s (steps_in l); words = rw g (demand_3_in_words s i (steps_in l)) }

  saved_agrees : (u : Saved (List Entry)) → OfSaved (Given s) u → SavedAgrees s u (saved_as (ran_by s) u) (saved_as (booked_by s) u)
  unfolding SavedAgrees
  saved_agrees never g = tt
  saved_agrees (state l) g = line_agrees l g

  pub demand_3_along : (xs : List Step) → AgreesAlong s xs
  demand_3_along xs = record {
    present = rw (j.runs, j.books) (line_agrees (present_line s xs) j.given.now);
    saved = λ n. rw (j.runs, j.books, under_as (ran_by s) (step_lines (entries s xs)) n, under_as (booked_by s) (step_lines (entries s xs)) n)
        (saved_agrees (saved_line s xs n) (each_under (Given s) (step_lines (entries s xs)) n j.given));
  }
    where
      j : Joined s (moved_by s (fresh_machine s) xs) (step_lines (entries s xs)) (accounts s xs)
      j = run_joined s i xs

-- Question 1 refuses no step of a run in range; "out of range, every step gets 1"
pub never_unsound : (s : Setup) → in_range s ≡ true → (xs : List Step) → All (λ (a : Answer). RefusedOne a → ⊥) (answers s (fresh_world s) xs)
never_unsound = question_one_never

pub out_of_range : (s : Setup) → in_range s ≡ false → (xs : List Step) → All RefusedOne (answers s (fresh_world s) xs)
out_of_range s i xs = question_one_always s i (fresh_world s) xs

-- the same of machines, saves and returns included
pub never_unsound_along : (s : Setup) → in_range s ≡ true → (xs : List Step) → All (λ (a : Answer). RefusedOne a → ⊥) (answers_to s (fresh_machine s) xs)
never_unsound_along s i xs = one_never s i xs (fresh_machine s) (fresh_machine_sound s i)

pub out_of_range_along : (s : Setup) → in_range s ≡ false → (xs : List Step) → All RefusedOne (answers_to s (fresh_machine s) xs)
out_of_range_along s i xs = one_always s i xs (fresh_machine s)
