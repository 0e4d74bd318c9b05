-- Demand 3 for the call that lists a run file: it writes the listing of the answers that calls of the public step return.
use Rattle.std.specs.Prelude.{ℕ, List, ◌≡◌}
use Rattle.protocol.specs.declared.step.Answer.{Answer}
use Rattle.protocol.specs.Saved.{Machine, fresh_machine}
use Rattle.protocol.specs.Line.{present_line, steps_in, answers_in}
use Rattle.protocol.specs.History.{HistoryAgrees}
use Rattle.file_shape.specs.Parts.{formed_in_range}
use Rattle.file_reader.specs.File.{setup_of}
use Rattle.file_reader.specs.Steps.{steps_of}
use Rattle.listing.specs.Listing.{listing_of}
use Rattle.promises.specs.Calls.{Calls, KeptByCalls}
use Rattle.promises.proofs.Calls.{calls_answer, calls_there, calls_keep, calls_in_words}
use Rattle.run.specs.Listed.{answers_of, left_by, file_listing, list_refusal, listed_formed}

-- The bytes are the listing of the answers rs. The answers and the machine r left after them are those of the file's steps, and each of its states agrees
-- with its ledger after every step of its line. The present one agrees with the customer's words about the history of its line: "judged along the line of
-- steps from fresh to the restored state and onward, never across the abandoned branch".
pub record FileAgrees (l bytes : List ℕ) (rs : List Answer) (r : Machine) : Type 0 where
  pub listing : bytes ≡ listing_of rs
  pub kept : KeptByCalls (setup_of l) (steps_of l) rs r
  pub words : HistoryAgrees (setup_of l) (steps_in (present_line (setup_of l) (steps_of l))) (answers_in (present_line (setup_of l) (steps_of l))) r.now

-- the listing that is written for an accepted file is what a program would print that calls the public step with each of the file's steps, from fresh
-- tables on
pub file_as_calls : (l : List ℕ) (n : ℕ) (rs : List Answer) (r : Machine) → list_refusal l n ≡ 0 → Calls (setup_of l) (fresh_machine (setup_of l)) (steps_of l) rs r
    → FileAgrees l (file_listing l) rs r
unfolding file_listing answers_of
file_as_calls l n rs r e c = record {
  listing = rw (calls_answer (setup_of l) c);
  kept = calls_keep (setup_of l) (formed_in_range l (listed_formed l n e)) (steps_of l) rs r c;
  words = calls_in_words (setup_of l) (formed_in_range l (listed_formed l n e)) (steps_of l) rs r c;
}

-- the same for the run's own answers and the machine that it leaves
pub file_agrees : (l : List ℕ) (n : ℕ) → list_refusal l n ≡ 0 → FileAgrees l (file_listing l) (answers_of l) (left_by l)
unfolding answers_of left_by
file_agrees l n e = file_as_calls l n (answers_of l) (left_by l) e (calls_there (setup_of l) (fresh_machine (setup_of l)) (steps_of l))
