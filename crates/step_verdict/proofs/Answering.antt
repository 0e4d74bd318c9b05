-- The verdict v after n writes completed: no record changes.
use Prim.Native.Nat.{ℕ}
use mathlib.Core.Path.{◌≡◌}
use borrow.Author.Tests.{eq-eqb, ne_eqb}
use Rattle.protocol.specs.declared.step.Answer.TheVariants.{Done, Completed}
use Rattle.protocol.specs.Answers.{completed_answer}
use Rattle.protocol.specs.Decide.{kept}
use Rattle.step_verdict.specs.declared.Verdict.{Verdict}

module _ (n : ℕ) (v : Verdict) where
  pub none_completed : n ≡ 0 → v ≡ record { change = kept; answer = Done } → v ≡ record { change = kept; answer = completed_answer n }
  none_completed h e = rw (eq-eqb _ _ h) e

  pub some_completed : (n ≡ 0 → ⊥) → v ≡ record { change = kept; answer = Completed n } → v ≡ record { change = kept; answer = completed_answer n }
  some_completed h e = rw (ne_eqb _ _ h) e
