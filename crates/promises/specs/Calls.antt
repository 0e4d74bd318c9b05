-- A list of calls of the public step, each on what the last one left, saves and returns included (02, A7), is a run of the definitions: so demand 3 is about
-- such a program, along the line of each of its states.
-- Letters: q, p and r machines, x a step, xs steps, a an answer, rs answers.
use Rattle.std.specs.Prelude.{◌≡◌}
use mathlib.Core.List.{List, [], ◌∷◌}
use Rattle.protocol.specs.declared.setup.Setup.{Setup}
use Rattle.protocol.specs.declared.step.Answer.{Answer}
use Rattle.protocol.specs.declared.step.Step.{Step}
use Rattle.protocol.specs.Saved.{Machine, fresh_machine, moved_by, answers_to, Called}
use Rattle.protocol.specs.Line.{AgreesAlong}

-- From the first machine to the last: a call of step x on `q` answered `a` and left `p`, as the contract of `step` says; the other calls went on from there
pub data Calls (s : Setup) : Machine → List Step → List Answer → Machine → Type 0 where
  none : {q : Machine} → Calls s q [] [] q
  call : {q p r : Machine} {x : Step} {a : Answer} {xs : List Step} {rs : List Answer} → Called s q x a p → Calls s p xs rs r → Calls s q (x ∷ xs) (a ∷ rs) r

-- what was answered and what is left are the definitions', whose states agree with their ledgers along their lines
pub record KeptByCalls (s : Setup) (xs : List Step) (rs : List Answer) (r : Machine) : Type 0 where
  pub answered : rs ≡ answers_to s (fresh_machine s) xs
  pub left : r ≡ moved_by s (fresh_machine s) xs
  pub agrees : AgreesAlong s xs
