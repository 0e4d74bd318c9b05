-- The questions, then the step.
use Rattle.std.proofs.Common.{◌≡◌, sym, ap, ◌∙◌, ℕ, Bool, true, eq-eqb}
use Rattle.laws.specs.Choice.{not_both}
use Rattle.protocol.specs.declared.records.Copy.{Copy}
use Rattle.protocol.specs.declared.records.Request.{Request}
use Rattle.protocol.specs.declared.refusal.Refusal.{Refusal}
use Rattle.protocol.specs.declared.setup.Setup.{Setup}
use Rattle.protocol.specs.declared.step.Change.{Change}
use Rattle.protocol.specs.declared.step.Answer.{Answer}
use Rattle.protocol.specs.declared.step.Answer.TheVariants.{Refused}
use Rattle.protocol.specs.declared.step.Decision.{Decision}
use Rattle.protocol.specs.declared.step.Step.{Step}
use Rattle.protocol.specs.declared.tables.Tables.{Tables}
use Rattle.protocol.specs.Refusals.{number_of}
use Rattle.protocol.specs.Setup.{in_range}
use Rattle.protocol.specs.Sound.{tables_sound}
use Rattle.protocol.specs.Answers.{answer_number, is_refused}
use Rattle.protocol.specs.Gate.{refusal_of_step, refusal}
use Rattle.protocol.specs.Decide.{kept, answered, performed, decided}
use Rattle.protocol.proofs.Soundness.StepCases.{step_passes, accepted_all, setup_in_range, tables_sound_law}
use Rattle.protocol.proofs.Soundness.Answered.{performed_not_refused}
use Rattle.step_verdict.specs.declared.Verdict.{Verdict}
use Rattle.step_verdict.proofs.Refusing.{not_zero}

module _ (s : Setup) (t : Tables) (records : Bool) (r : Request) (x : Step) where
  module _ (p : 0 ≡ refusal s t records r x) where
    pub asked : (in_range s ≡ true) × (tables_sound s t ≡ true) × (refusal_of_step s t r x ≡ 0)
    asked =
        let a = accepted_all s t records r x (sym p) in
        (setup_in_range a, tables_sound_law a, step_passes s t records r x (sym p))

    module _ (c : Copy) (g : Change) (u : Tables) (a : Answer) (e : answered g u a ≡ performed s t c r x) where
      pub accepts : answered g u a ≡ decided s t records c r x
      unfolding decided
      accepts = rw (← p) e

      -- the answer to an accepted step is not a refusal
      pub not_refused : {A : Type 0} → answer_number a ≡ 4 → A
      not_refused n =
          not_both (eq-eqb (answer_number a) 4 n)
          (ap (λ (d : Decision). is_refused d.outcome.answer) e ∙ performed_not_refused s t c r records x (accepted_all s t records r x (sym p)))

  pub refuses : (e : Refusal) (k : ℕ) → number_of e ≡ refusal s t records r x → k ≡ number_of e → (c : Copy) (v : Verdict)
      → v ≡ record { change = kept; answer = Refused k } → answered v.change t v.answer ≡ decided s t records c r x
  unfolding decided
  refuses e k p q c v f = rw (← p, not_zero e, f, q)
