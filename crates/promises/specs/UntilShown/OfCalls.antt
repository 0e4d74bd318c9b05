-- 02, A1, of a program that calls the public step, saves and returns included: how many calls until a client's read is shown.
-- Letters: ys are the steps of the calls from fresh tables on, which left q; xs are the policy's, which were answered rs and left r; a is the answer to the
-- read called after them, which left p; d client, o object, n how many steps the policy may take.
use Rattle.std.specs.Prelude.{ℕ, false, List, ◌++◌, ◌≡◌, length}
use Rattle.laws.specs.Lists.{All}
use Rattle.protocol.specs.declared.setup.Setup.{Setup}
use Rattle.protocol.specs.declared.step.Answer.{Answer}
use Rattle.protocol.specs.declared.step.Answer.TheVariants.{Shown}
use Rattle.protocol.specs.declared.step.Step.{Step}
use Rattle.protocol.specs.Answers.{is_refused}
use Rattle.protocol.specs.Reached.{posted_after}
use Rattle.protocol.specs.Saved.{Machine}
use Rattle.protocol.specs.Line.{present_line, steps_in}
use Rattle.promises.specs.UntilShown.Policy.{steps_needed}

-- the value is the one posted last along the line of the state that the calls reached
pub record ShownByCalls (s : Setup) (ys xs : List Step) (rs : List Answer) (q r : Machine) (d o : ℕ) (a : Answer) : Type 0 where
  pub many : length xs ≡ steps_needed s q.now d o
  pub accepted : All (λ (b : Answer). is_refused b ≡ false) rs
  pub empty : r.now.tables.queue.len ≡ 0
  pub shown : a ≡ Shown (posted_after s (steps_in (present_line s ys) ++ xs) o)
