-- What the answers to the steps of a run tell is its history without the completions.
-- Letters: s setup, w world, t its tables, x a step, y an answer, c a copy, r a request, g a decision or what is staged, os objects, e an event, l a
-- list of events, b a test; the others are proofs.
use Rattle.std.specs.Prelude.{ℕ, Bool, false, cond, ◌≡◌, refl}
use Rattle.std.proofs.Math.Bool.{true}
use mathlib.Core.List.{List, [], ◌∷◌, ◌++◌, map, append_assoc, append-nil}
use Rattle.std.proofs.Math.Logic.{⊎_elim}
use Rattle.std.proofs.Math.Path.{sym, ap}
use Rattle.std.proofs.Common.{◌∙◌}
use Rattle.laws.specs.Choice.{cond_keeps, true_or_false, same?}
use Rattle.protocol.specs.declared.records.Copy.{Copy}
use Rattle.protocol.specs.declared.records.Request.{Request}
use Rattle.protocol.specs.declared.setup.Setup.{Setup}
use Rattle.protocol.specs.declared.step.Answer.{Answer}
use Rattle.protocol.specs.declared.step.Decision.{Decision}
use Rattle.protocol.specs.declared.step.Step.{Step}
use Rattle.protocol.specs.declared.tables.Tables.{Tables}
use Rattle.protocol.specs.Writes.{write_staged, clock_staged}
use Rattle.protocol.specs.Client.{showable}
use Rattle.protocol.specs.Decide.{performed, read_decided}
use Rattle.protocol.specs.World.{World, fresh_world, stepped, answer_of, answers}
use Rattle.protocol.specs.Ledger.{Event, completion, clock_step, settling_of, delivery_staged, read_events, happening, accepts, events}
use Rattle.protocol.specs.Soundness.StepCases.{Accepted, copy_of, request_of}
use Rattle.protocol.proofs.Soundness.StepCases.{accepted, accepted_answer_law, refused_answer, by_kind, read_performed}
use Rattle.protocol.proofs.Soundness.Answered.{performed_not_refused}
use Rattle.protocol.proofs.Bookkeeping.Happening.{clock_happening, read_happening, ask_happening, write_happening, deliver_happening, lose_happening, double_happening, server_happening, client_happening}
use Rattle.protocol.proofs.Bookkeeping.Shown.{unread_unshown}
use Rattle.protocol.specs.History.{told, history_from, history, step_tells, answer_tells, answers_tell, uncompleted}
use Rattle.protocol.proofs.History.Lawful.{told_append}

completions_dropped : (os : List ℕ) (past : List Event) → uncompleted (told (map completion os) past) ≡ uncompleted past
unfolding told uncompleted
completions_dropped [] past = refl
completions_dropped (o ∷ os) past = completions_dropped os (completion o ∷ past) ∙ append-nil (uncompleted past)

module _ (s : Setup) (t : Tables) (c : Copy) (r : Request) (past : List Event) where
  -- a step that is no read tells what it is by itself
  unread_told : (b : Bool) (x : Step) → Accepted s t b r x → (x.kind ≡ 2 → ⊥) → uncompleted (told (happening s t c x) past) ≡ uncompleted past ++ step_tells s t x
  unfolding told uncompleted
  unread_told b x a f =
      by_kind (uncompleted (told (happening s t c x) past) ≡ uncompleted past ++ step_tells s t x) x a.passes.knows
      (λ e.
      rw (clock_happening s t c x e, told_append, e)
      (ap (λ (l : List Event). l ++ (clock_step x.clock ∷ [])) (completions_dropped (settling_of s (clock_staged s t x.clock)) past)))
      (λ e. absurd (f e))
      (λ e. rw (ask_happening s t c x e, e) (sym (append-nil (uncompleted past))))
      (λ e. rw (write_happening s t c x e, e) (completions_dropped (settling_of s (write_staged s t x.object x.value)) _))
      (λ e.
      rw (deliver_happening s t c x e, e)
      (completions_dropped (settling_of s (delivery_staged s t x.place)) past ∙ sym (append-nil (uncompleted past))))
      (λ e. rw (lose_happening s t c x e, e) (sym (append-nil (uncompleted past))))
      (λ e. rw (double_happening s t c x e, e) (sym (append-nil (uncompleted past))))
      (λ e. rw (server_happening s t c x e, e))
      (λ e. rw (client_happening s t c x e, e) (sym (append-nil (uncompleted past))))

  read_told : (x : Step) → x.kind ≡ 2
      → uncompleted (told (read_events s t c x.client x.object) past)
      ≡ uncompleted past ++ answer_tells s t x (read_decided s t c x.client x.object).outcome.answer
  unfolding read_decided told uncompleted
  read_told x k =
      cond_keeps (λ (g : Decision). uncompleted (told (read_events s t c x.client x.object) past) ≡ uncompleted past ++ answer_tells s t x g.outcome.answer)
      (showable s t c x.client x.object) (λ e. rw e) (λ e. rw (e, k) (sym (append-nil (uncompleted past))))

  performed_told : (b : Bool) (x : Step) → Accepted s t b r x
      → uncompleted (told (happening s t c x) past) ≡ uncompleted past ++ answer_tells s t x (performed s t c r x).outcome.answer
  performed_told b x a = ⊎_elim read other (same? x.kind 2)
    where
      read : x.kind ≡ 2 → uncompleted (told (happening s t c x) past) ≡ uncompleted past ++ answer_tells s t x (performed s t c r x).outcome.answer
      read e = rw (read_happening s t c x e, read_performed s t c r x e) (read_told x e)

      other : (x.kind ≡ 2 → ⊥) → uncompleted (told (happening s t c x) past) ≡ uncompleted past ++ answer_tells s t x (performed s t c r x).outcome.answer
      other f = rw (performed_not_refused s t c r b x a, unread_unshown s t c r b x a f) (unread_told b x a f)

module _ (s : Setup) (w : World) (x : Step) (past : List Event) where
  pub step_told : uncompleted (told (events s w x) past) ≡ uncompleted past ++ answer_tells s w.tables x (answer_of s w x)
  unfolding events told
  step_told = ⊎_elim taken refused (true_or_false (accepts s w x))
    where
      taken : accepts s w x ≡ true → uncompleted (told (events s w x) past) ≡ uncompleted past ++ answer_tells s w.tables x (answer_of s w x)
      taken e =
          ap (λ (b : Bool). uncompleted (told (cond b (happening s w.tables (copy_of s w x) x) []) past)) e
          ∙ performed_told s w.tables (copy_of s w x) (request_of s w x) past _ x (accepted s w x e)
          ∙ sym (ap (λ (y : Answer). uncompleted past ++ answer_tells s w.tables x y) (accepted_answer_law s w x e))

      refused : accepts s w x ≡ false → uncompleted (told (events s w x) past) ≡ uncompleted past ++ answer_tells s w.tables x (answer_of s w x)
      refused e = rw (e, refused_answer s w x e) (sym (append-nil (uncompleted past)))

run_told : (s : Setup) (w : World) (past : List Event) (xs : List Step)
    → uncompleted past ++ answers_tell s w xs (answers s w xs) ≡ uncompleted (history_from s w past xs)
unfolding history_from answers answers_tell
run_told s w past [] = append-nil (uncompleted past)
run_told s w past (x ∷ xs) =
    sym (append_assoc (uncompleted past) (answer_tells s w.tables x (answer_of s w x)) (answers_tell s (stepped s w x) xs (answers s (stepped s w x) xs)))
    ∙ ap (λ (l : List Event). l ++ answers_tell s (stepped s w x) xs (answers s (stepped s w x) xs)) (sym (step_told s w x past))
    ∙ run_told s (stepped s w x) (told (events s w x) past) xs

pub answers_told : (s : Setup) (xs : List Step) → answers_tell s (fresh_world s) xs (answers s (fresh_world s) xs) ≡ uncompleted (history s xs)
unfolding uncompleted
answers_told s xs = run_told s (fresh_world s) [] xs
