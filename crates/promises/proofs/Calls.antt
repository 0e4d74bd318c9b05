-- A list of calls of the public step, each on what the last one left, saves and returns included (02, A7), is a run of the definitions: so demand 3 is about
-- such a program, along the line of each of its states.
-- Letters: q, p and r machines, x a step, xs steps, a an answer, rs answers.
use Rattle.std.specs.Prelude.{true, ◌≡◌}
use mathlib.Core.List.{List, [], ◌∷◌}
use Rattle.std.proofs.Math.Path.{refl, ap}
use Rattle.std.proofs.Common.{◌∙◌}
use Rattle.protocol.specs.declared.setup.Setup.{Setup}
use Rattle.protocol.specs.declared.step.Answer.{Answer}
use Rattle.protocol.specs.declared.step.Step.{Step}
use Rattle.protocol.specs.Setup.{in_range}
use Rattle.protocol.specs.World.{fresh_world, ran}
use Rattle.protocol.specs.History.{HistoryAgrees}
use Rattle.protocol.specs.Saved.{Machine, fresh_machine, moved, moved_by, answers_to}
use Rattle.protocol.specs.Line.{present_line, steps_in, answers_in}
use Rattle.protocol.proofs.Demand3.{demand_3_along}
use Rattle.promises.specs.Calls.{Calls, none, call, KeptByCalls}

module _ (s : Setup) where
  pub calls_answer : {q r : Machine} {xs : List Step} {rs : List Answer} → Calls s q xs rs r → rs ≡ answers_to s q xs
  unfolding answers_to
  calls_answer none = refl
  calls_answer (call {x = x} {xs = xs} e c) = rw (e.answers, calls_answer c, e.moves)

  pub calls_leave : {q r : Machine} {xs : List Step} {rs : List Answer} → Calls s q xs rs r → r ≡ moved_by s q xs
  unfolding moved_by
  calls_leave none = refl
  calls_leave (call {xs = xs} e c) = calls_leave c ∙ ap (λ (p : Machine). moved_by s p xs) e.moves

  -- and every list of steps is such a list of calls
  pub calls_there : (q : Machine) (xs : List Step) → Calls s q xs (answers_to s q xs) (moved_by s q xs)
  unfolding answers_to moved_by
  calls_there q [] = none
  calls_there q (x ∷ xs) = call (record { answers = refl; moves = refl }) (calls_there (moved s q x) xs)

module _ (s : Setup) (i : in_range s ≡ true) (xs : List Step) (rs : List Answer) (r : Machine) (c : Calls s (fresh_machine s) xs rs r) where
  pub calls_keep : KeptByCalls s xs rs r
  calls_keep = record { answered = calls_answer s c; left = calls_leave s c; agrees = demand_3_along s i xs }

  -- the present state is what the steps of its line make of fresh tables
  pub reached_by_line : r.now ≡ ran s (fresh_world s) (steps_in (present_line s xs))
  reached_by_line = ap (λ (p : Machine). p.now) (calls_leave s c) ∙ (demand_3_along s i xs).present.runs

  -- demand 3 in words about the history of that line, of which the answers in it and the state that the calls left tell
  pub calls_in_words : HistoryAgrees s (steps_in (present_line s xs)) (answers_in (present_line s xs)) r.now
  calls_in_words = rw (calls_leave s c) (demand_3_along s i xs).present.words
