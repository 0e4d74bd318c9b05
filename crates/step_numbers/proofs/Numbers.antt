-- 01, "Frame, run file and listing": the number and the value of a step's answer, as functions of the step's input.
-- Letters: s setup, w world, q a machine, x a step, t tables, c a copy, r a request.
use Rattle.std.specs.Prelude.{ℕ, zero, suc, Bool, cond, ◌≡◌, refl, eqb}
use Rattle.std.proofs.Math.Bool.{true, false}
use Rattle.std.proofs.Common.{sym, ◌∙◌, eqb-true, eq-eqb}
use Rattle.std.proofs.Math.Dec.{eqb-suc-zero}
use Rattle.protocol.specs.declared.records.Copy.{Copy}
use Rattle.protocol.specs.declared.records.Request.{Request}
use Rattle.protocol.specs.declared.setup.Setup.{Setup}
use Rattle.protocol.specs.declared.step.Answer.{Answer}
use Rattle.protocol.specs.declared.step.Answer.TheVariants.{Done, Refused}
use Rattle.protocol.specs.declared.step.Step.{Step}
use Rattle.protocol.specs.declared.tables.Tables.{Tables}
use Rattle.protocol.specs.Writes.{settled, write_staged, clock_staged}
use Rattle.protocol.specs.Client.{showable}
use Rattle.protocol.specs.Answers.{done_or_completed, answer_number, answer_value, completed_answer}
use Rattle.protocol.specs.Gate.{known}
use Rattle.protocol.proofs.Gate.{asked}
use Rattle.protocol.specs.Decide.{read_decided, ask_decided, deliver_decided, restart_decided, performed}
use Rattle.protocol.specs.World.{World, answer_of}
use Rattle.protocol.specs.Ledger.{accepts}
use Rattle.protocol.specs.Saved.{Machine, uses_name, saved_sound, refusal_in, answer_to}
use Rattle.protocol.proofs.SavedLaws.{ordinary_refusal}
use Rattle.protocol.specs.Soundness.StepCases.{copy_of, request_of}
use Rattle.protocol.proofs.Soundness.StepCases.{accepted, accepted_answer_law, by_kind}
use Rattle.protocol.proofs.Soundness.StepCases.{clock_performed, read_performed, ask_performed, write_performed, deliver_performed}
use Rattle.protocol.proofs.Soundness.StepCases.{lose_performed, double_performed, server_performed, client_performed}
use Rattle.step_numbers.specs.Numbers.{completed_in, accepted_number, accepted_value, number_of, value_of}

-- ---- both agree with the answer
abbrev Says : Answer → ℕ → ℕ → Type 0
Says a number value = (answer_number a ≡ number) × (answer_value a ≡ value)

completed_says : (n : ℕ) → Says (completed_answer n) (done_or_completed n) n
completed_says zero = (refl, refl)
completed_says (suc n) = (rw (eqb-suc-zero n, eqb-suc-zero n), rw (eqb-suc-zero n))

module _ (s : Setup) (t : Tables) (c : Copy) (r : Request) where
  read_says : (d o : ℕ) (b : Bool) → showable s t c d o ≡ b → Says (read_decided s t c d o).outcome.answer (cond b 1 2) (cond b c.value 0)
  unfolding read_decided
  read_says d o true e = (rw e, rw e)
  read_says d o false e = (rw e, rw e)

  performed_says : (x : Step) → known x ≡ true → Says (performed s t c r x).outcome.answer (accepted_number s t c r x) (accepted_value s t c r x)
  unfolding accepted_number accepted_value completed_in ask_decided deliver_decided restart_decided
  performed_says x k =
      by_kind (Says (performed s t c r x).outcome.answer (accepted_number s t c r x) (accepted_value s t c r x)) x k
      (λ e. rw (clock_performed s t c r x e, e) (completed_says (settled s (clock_staged s t x.clock)).count))
      (λ e. rw (read_performed s t c r x e, e) (read_says x.client x.object (showable s t c x.client x.object) refl))
      (λ e. rw (ask_performed s t c r x e, e) (refl, refl))
      (λ e. rw (write_performed s t c r x e, e) (completed_says (settled s (write_staged s t x.object x.value)).count))
      (λ e. rw (deliver_performed s t c r x e, e) (refl, refl))
      (λ e. rw (lose_performed s t c r x e, e) (refl, refl))
      (λ e. rw (double_performed s t c r x e, e) (refl, refl))
      (λ e. rw (server_performed s t c r x e, e) (refl, refl))
      (λ e. rw (client_performed s t c r x e, e) (refl, refl))

accepted_says : (s : Setup) (w : World) (x : Step) → accepts s w x ≡ true
    → Says (answer_of s w x) (accepted_number s w.tables (copy_of s w x) (request_of s w x) x) (accepted_value s w.tables (copy_of s w x) (request_of s w x) x)
accepted_says s w x e = rw (accepted_answer_law s w x e) (performed_says s w.tables (copy_of s w x) (request_of s w x) x (accepted s w x e).passes.knows)

-- b: the step is accepted; n: it is a save or a return; k the refusal; a, number and value of any other accepted step
chosen_says : (b n : Bool) (a : Answer) (k number value : ℕ) → (b ≡ true → n ≡ false → Says a number value)
    → Says (cond b (cond n Done a) (Refused k)) (cond b (cond n 0 number) 4) (cond b (cond n 0 value) k)
chosen_says true true a k number value h = (refl, refl)
chosen_says true false a k number value h = h refl refl
chosen_says false n a k number value h = (refl, refl)

module _ (s : Setup) (q : Machine) (x : Step) where
  -- an accepted step of 01's kinds is accepted in the present state
  now_accepts : eqb (refusal_in s q x) 0 ≡ true → uses_name x ≡ false → accepts s q.now x ≡ true
  now_accepts e u = eq-eqb _ 0 (asked (saved_sound s q) 0 _ (sym (ordinary_refusal s q x u) ∙ eqb-true _ 0 e)).1

  says : Says (answer_to s q x) (number_of s q x) (value_of s q x)
  unfolding number_of value_of answer_to
  says = chosen_says (eqb (refusal_in s q x) 0) (uses_name x) _ _ _ _ (λ e u. accepted_says s q.now x (now_accepts e u))

  pub number_is : answer_number (answer_to s q x) ≡ number_of s q x
  number_is = says.0

  pub value_is : answer_value (answer_to s q x) ≡ value_of s q x
  value_is = says.1
