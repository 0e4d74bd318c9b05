-- What a step that is answered "shown" was: a read of a copy that may be shown.
-- Letters: s setup, w world, t its tables, x a step, i its place, c and z copies, r a request, g a decision, d client, o object, n a number of writes;
-- the others are proofs.
use Rattle.std.specs.Prelude.{ℕ, Bool, false, ◌≡◌, eqb}
use Rattle.std.proofs.Math.Bool.{true}
use Rattle.std.proofs.Common.{⊎_elim, sym, ap, ◌∙◌}
use Rattle.std.proofs.Math.Path.{refl}
use Rattle.laws.specs.Choice.{cond_keeps, true_or_false, not_both, same?}
use Rattle.protocol.specs.declared.records.Copy.{Copy}
use Rattle.protocol.specs.declared.records.Request.{Request}
use Rattle.protocol.specs.declared.setup.Setup.{Setup}
use Rattle.protocol.specs.declared.step.Answer.{Answer}
use Rattle.protocol.specs.declared.step.Decision.{Decision}
use Rattle.protocol.specs.declared.step.Step.{Step}
use Rattle.protocol.specs.declared.tables.Tables.{Tables}
use Rattle.protocol.specs.Messages.{message_at}
use Rattle.protocol.specs.Writes.{settled, write_staged, clock_staged}
use Rattle.protocol.specs.Client.{showable}
use Rattle.protocol.specs.Answers.{answer_value, done_or_completed, is_shown, completed_answer}
use Rattle.protocol.specs.Decide.{received, taken, performed, read_decided, ask_decided, deliver_decided, restart_decided}
use Rattle.protocol.specs.World.{World, target, answer_of}
use Rattle.protocol.specs.Ledger.{accepts}
use Rattle.protocol.specs.Soundness.StepCases.{Accepted, copy_of, request_of}
use Rattle.protocol.proofs.Soundness.StepCases.{accepted, accepted_answer_law, refused_answer, by_kind, client_exists, object_exists, clock_performed, read_performed, ask_performed, write_performed, deliver_performed, lose_performed, double_performed, server_performed, client_performed}
use Rattle.protocol.specs.Safety.View.{copy_at}
use Rattle.protocol.specs.Bookkeeping.Shown.{ReadShown}

-- a number of completed writes is not shown
not_one : (n : ℕ) → eqb (done_or_completed n) 1 ≡ false
not_one n = cond_keeps (λ (k : ℕ). eqb k 1 ≡ false) (eqb n 0) (λ e. refl) (λ e. refl)

completed_unshown : (n : ℕ) → is_shown (completed_answer n) ≡ false
completed_unshown n = cond_keeps (λ (a : Answer). is_shown a ≡ false) (eqb n 0) (λ e. refl) (λ e. not_one n)

module _ (s : Setup) (t : Tables) (c : Copy) (r : Request) where
  ask_unshown : (d o : ℕ) → is_shown (ask_decided s t c r d o).outcome.answer ≡ false
  unfolding ask_decided
  ask_unshown d o = refl

  deliver_unshown : (i : ℕ) → is_shown (deliver_decided s t c r i).outcome.answer ≡ false
  unfolding deliver_decided
  deliver_unshown i = not_one (received s (taken t i) c r (message_at t.queue i).client (message_at t.queue i).kind).counted.count

  restart_unshown : (d : ℕ) → is_shown (restart_decided s t d).outcome.answer ≡ false
  unfolding restart_decided
  restart_unshown d = refl

  -- only a read is answered "shown"
  pub unread_unshown : (b : Bool) (x : Step) → Accepted s t b r x → (x.kind ≡ 2 → ⊥) → is_shown (performed s t c r x).outcome.answer ≡ false
  unread_unshown b x a f =
      by_kind (is_shown (performed s t c r x).outcome.answer ≡ false) x a.passes.knows
      (λ e. rw (clock_performed s t c r x e) (completed_unshown (settled s (clock_staged s t x.clock)).count))
      (λ e. absurd (f e))
      (λ e. rw (ask_performed s t c r x e) (ask_unshown x.client x.object))
      (λ e. rw (write_performed s t c r x e) (completed_unshown (settled s (write_staged s t x.object x.value)).count))
      (λ e. rw (deliver_performed s t c r x e) (deliver_unshown x.place))
      (λ e. rw (lose_performed s t c r x e))
      (λ e. rw (double_performed s t c r x e))
      (λ e. rw (server_performed s t c r x e))
      (λ e. rw (client_performed s t c r x e) (restart_unshown x.client))

  read_shows : (d o : ℕ) → is_shown (read_decided s t c d o).outcome.answer ≡ true
      → (showable s t c d o ≡ true) × (answer_value (read_decided s t c d o).outcome.answer ≡ c.value)
  unfolding read_decided
  read_shows d o =
      cond_keeps (λ (g : Decision). is_shown g.outcome.answer ≡ true → (showable s t c d o ≡ true) × (answer_value g.outcome.answer ≡ c.value))
      (showable s t c d o) (λ e f. (e, refl)) (λ e f. not_both f refl)

pub copy_read : (s : Setup) (w : World) (x : Step) → x.kind ≡ 2 → copy_of s w x ≡ copy_at s w.copies x.client x.object
unfolding target
copy_read s w x e = rw e

module _ (s : Setup) (w : World) (x : Step) where
  pub shown_read : is_shown (answer_of s w x) ≡ true → ReadShown s w x
  shown_read h = ⊎_elim taken_read (λ e. not_both h (ap is_shown (refused_answer s w x e))) (true_or_false (accepts s w x))
    where
      c : Copy
      c = copy_of s w x

      r : Request
      r = request_of s w x

      taken_read : accepts s w x ≡ true → ReadShown s w x
      taken_read e =
          let a = accepted s w x e in
          let p = accepted_answer_law s w x e in
          let k : x.kind ≡ 2 =
          ⊎_elim (λ f. f) (λ f. not_both h (ap is_shown p ∙ unread_unshown s w.tables c r _ x a f)) (same? x.kind 2) in
          let v = p ∙ ap (λ (g : Decision). g.outcome.answer) (read_performed s w.tables c r x k) in
          let q = read_shows s w.tables c r x.client x.object (sym (ap is_shown v) ∙ h) in
          let y = copy_read s w x k in
          record {
            takes = e;
            kind = k;
            client = client_exists a.passes (rw k);
            object = object_exists a.passes (rw k);
            shows = sym (ap (λ (z : Copy). showable s w.tables z x.client x.object) y) ∙ q.0;
            value = ap answer_value v ∙ q.1 ∙ ap (λ (z : Copy). z.value) y;
          }
