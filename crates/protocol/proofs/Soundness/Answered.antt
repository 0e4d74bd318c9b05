-- A refused step's answer is its refusal, and an accepted step's answer is none.
use Rattle.std.specs.Prelude.{ℕ, Bool, true, false, ◌≡◌, eqb}
use Rattle.std.proofs.Common.{⊎_elim, ap, ◌∙◌}
use Rattle.std.proofs.Math.Path.{refl}
use Rattle.laws.specs.Choice.{cond_keeps, true_or_false, not_both}
use Rattle.protocol.specs.declared.records.Copy.{Copy}
use Rattle.protocol.specs.declared.records.Request.{Request}
use Rattle.protocol.specs.declared.setup.Setup.{Setup}
use Rattle.protocol.specs.declared.step.Answer.{Answer}
use Rattle.protocol.specs.declared.step.Decision.{Decision}
use Rattle.protocol.specs.declared.step.Step.{Step}
use Rattle.protocol.specs.declared.tables.Tables.{Tables}
use Rattle.protocol.specs.Messages.{message_at}
use Rattle.protocol.specs.Writes.{settled, write_staged, clock_staged}
use Rattle.protocol.specs.Client.{showable}
use Rattle.protocol.specs.Answers.{done_or_completed, is_refused, completed_answer}
use Rattle.protocol.specs.Decide.{received, taken, performed, read_decided, ask_decided, deliver_decided, restart_decided}
use Rattle.protocol.specs.World.{World, answer_of}
use Rattle.protocol.specs.Ledger.{accepts}
use Rattle.protocol.specs.Soundness.StepCases.{Accepted, copy_of, request_of}
use Rattle.protocol.proofs.Soundness.StepCases.{accepted, accepted_answer_law, refused_answer, by_kind, clock_performed, read_performed, ask_performed, write_performed, deliver_performed, lose_performed, double_performed, server_performed, client_performed}

-- a number of completed writes is no refusal
not_four : (n : ℕ) → eqb (done_or_completed n) 4 ≡ false
not_four n = cond_keeps (λ (k : ℕ). eqb k 4 ≡ false) (eqb n 0) (λ e. refl) (λ e. refl)

completed_not_refused : (n : ℕ) → is_refused (completed_answer n) ≡ false
completed_not_refused n = cond_keeps (λ (a : Answer). is_refused a ≡ false) (eqb n 0) (λ e. refl) (λ e. not_four n)

module _ (s : Setup) (t : Tables) (c : Copy) (r : Request) where
  read_not_refused : (d o : ℕ) → is_refused (read_decided s t c d o).outcome.answer ≡ false
  unfolding read_decided
  read_not_refused d o = cond_keeps (λ (g : Decision). is_refused g.outcome.answer ≡ false) (showable s t c d o) (λ e. refl) (λ e. refl)

  ask_not_refused : (d o : ℕ) → is_refused (ask_decided s t c r d o).outcome.answer ≡ false
  unfolding ask_decided
  ask_not_refused d o = refl

  deliver_not_refused : (i : ℕ) → is_refused (deliver_decided s t c r i).outcome.answer ≡ false
  unfolding deliver_decided
  deliver_not_refused i = not_four (received s (taken t i) c r (message_at t.queue i).client (message_at t.queue i).kind).counted.count

  restart_not_refused : (d : ℕ) → is_refused (restart_decided s t d).outcome.answer ≡ false
  unfolding restart_decided
  restart_not_refused d = refl

  pub performed_not_refused : (b : Bool) (x : Step) → Accepted s t b r x → is_refused (performed s t c r x).outcome.answer ≡ false
  performed_not_refused b x a =
      by_kind (is_refused (performed s t c r x).outcome.answer ≡ false) x a.passes.knows
      (λ e. rw (clock_performed s t c r x e) (completed_not_refused (settled s (clock_staged s t x.clock)).count))
      (λ e. rw (read_performed s t c r x e) (read_not_refused x.client x.object))
      (λ e. rw (ask_performed s t c r x e) (ask_not_refused x.client x.object))
      (λ e. rw (write_performed s t c r x e) (completed_not_refused (settled s (write_staged s t x.object x.value)).count))
      (λ e. rw (deliver_performed s t c r x e) (deliver_not_refused x.place))
      (λ e. rw (lose_performed s t c r x e))
      (λ e. rw (double_performed s t c r x e))
      (λ e. rw (server_performed s t c r x e))
      (λ e. rw (client_performed s t c r x e) (restart_not_refused x.client))

module _ (s : Setup) (w : World) (x : Step) where
  pub accepted_not_refused : accepts s w x ≡ true → is_refused (answer_of s w x) ≡ false
  accepted_not_refused e =
      ap is_refused (accepted_answer_law s w x e) ∙ performed_not_refused s w.tables (copy_of s w x) (request_of s w x) _ x (accepted s w x e)

  pub refused_is_refused : accepts s w x ≡ false → is_refused (answer_of s w x) ≡ true
  refused_is_refused e = ap is_refused (refused_answer s w x e)

  -- an answer that is no refusal was given to an accepted step
  pub accepted_of : is_refused (answer_of s w x) ≡ false → accepts s w x ≡ true
  accepted_of e = ⊎_elim (λ a. a) (λ a. not_both (refused_is_refused a) e) (true_or_false (accepts s w x))
