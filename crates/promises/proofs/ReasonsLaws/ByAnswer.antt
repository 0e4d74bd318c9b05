-- The same event told by a step's answer, for whoever keeps the last event beside a run: an answer carries the message that was delivered, so that the copy
-- before and after the step and the request before it are all that must be looked at.
-- Letters: s setup, w world, x a step, a an answer, r a request, d client, o object, c and g the copy before and after.
use Rattle.std.specs.Prelude.{ℕ, ◌<◌, true, false, cond, ◌≡◌, refl, eqb, None, Some}
use Rattle.std.proofs.Common.{arith, ap, ◌∙◌}
use Rattle.std.proofs.Math.Logic.{⊎_elim}
use Rattle.std.proofs.Math.Path.{sym}
use borrow.Author.Tests.{eqb-true, ne_eqb}
use Rattle.laws.specs.Choice.{cond_keeps, true_or_false, and-true}
use Rattle.protocol.specs.declared.records.Request.{Request}
use Rattle.protocol.specs.declared.setup.Setup.{Setup}
use Rattle.protocol.specs.declared.step.Answer.{Answer}
use Rattle.protocol.specs.declared.step.Answer.TheVariants.{Delivered}
use Rattle.protocol.specs.declared.step.Decision.{Decision}
use Rattle.protocol.specs.declared.step.Step.{Step}
use Rattle.protocol.specs.Answers.{completed_answer}
use Rattle.protocol.specs.Writes.{settled, write_staged, clock_staged}
use Rattle.protocol.specs.Client.{showable}
use Rattle.protocol.specs.Gate.{is_deliver, is_restart_client}
use Rattle.protocol.specs.Decide.{read_decided, ask_decided, deliver_decided, restart_decided}
use Rattle.protocol.specs.World.{World, stepped, answer_of}
use Rattle.protocol.specs.Ledger.{accepts}
use Rattle.protocol.specs.Soundness.StepCases.{Accepted, copy_of, request_of, records_of}
use Rattle.protocol.proofs.Soundness.StepCases.{accepted, by_kind, performed_of, accepted_answer_law, refused_answer, clock_performed, read_performed, ask_performed, write_performed}
use Rattle.protocol.proofs.Soundness.StepCases.{deliver_performed, lose_performed, double_performed, server_performed, client_performed}
use Rattle.protocol.specs.Soundness.Question.{SoundWorld}
use Rattle.protocol.specs.Safety.View.{copy_at, request_at}
use Rattle.promises.specs.declared.reasons.Event.TheVariants.{Granted, Erased}
use Rattle.promises.specs.declared.reasons.Why.{Why}
use Rattle.promises.specs.declared.reasons.Why.TheVariants.{NoCause, NeverGranted, CopyInvalidated, LeasesDropped, ClientRestarted, VolumeLeaseRanOut, ObjectLeaseRanOut}
use Rattle.promises.specs.Reasons.Events.{delivered_by, delivers_to, grants, invalidates, offers, restarts, erases, cause, event_of}
use Rattle.promises.specs.Reasons.Told.{How}
use Rattle.promises.proofs.ReasonsLaws.Told.{how}
use Rattle.promises.specs.Reasons.ByAnswer.{granted_by, cause_by, event_by}

module _ (s : Setup) (w : World) (x : Step) where
  abbrev pub GrantTold : ℕ → ℕ → Type 0
  GrantTold d o = grants s w x d o ≡ granted_by (request_at w.requests d) d o (answer_of s w x)

  module _ (a : accepts s w x ≡ true) where
    facts : Accepted s w.tables (records_of s w) (request_of s w x) x
    facts = accepted s w x a

    answers : (g : Decision) → performed_of s w x ≡ g → answer_of s w x ≡ g.outcome.answer
    answers g e = accepted_answer_law s w x a ∙ ap (λ (g : Decision). g.outcome.answer) e

    -- the answer of a delivery carries the message
    delivers : x.kind ≡ 5 → (n : ℕ) × (answer_of s w x ≡ Delivered (delivered_by w x) n)
    unfolding deliver_decided
    delivers e = (_, answers _ (deliver_performed s w.tables (copy_of s w x) (request_of s w x) x e))

    module _ (d o : ℕ) where
      abbrev r : Request
      r = request_at w.requests d

      -- no delivery
      other : (x.kind ≡ 5 → ⊥) → granted_by r d o (answer_of s w x) ≡ false → GrantTold d o
      unfolding grants
      other n h = rw (a, ne_eqb x.kind 5 n, h)

      counted : (n : ℕ) → granted_by r d o (completed_answer n) ≡ false
      counted n = cond_keeps (λ (b : Answer). granted_by r d o b ≡ false) (eqb n 0) (λ _. refl) (λ _. refl)

      accepted_told : GrantTold d o
      unfolding grants read_decided ask_decided restart_decided
      accepted_told =
          by_kind (GrantTold d o) x facts.passes.knows
          (λ e. other (λ f. omega arith) (rw (answers _ (clock_performed s w.tables (copy_of s w x) (request_of s w x) x e)) (counted (settled s (clock_staged s w.tables x.clock)).count)))
          (λ e. other (λ f. omega arith) (rw (answers _ (read_performed s w.tables (copy_of s w x) (request_of s w x) x e))
          (cond_keeps (λ (g : Decision). granted_by r d o g.outcome.answer ≡ false) (showable s w.tables (copy_of s w x) x.client x.object) (λ _. refl) (λ _. refl))))
          (λ e. other (λ f. omega arith) (rw (answers _ (ask_performed s w.tables (copy_of s w x) (request_of s w x) x e))))
          (λ e. other (λ f. omega arith) (rw (answers _ (write_performed s w.tables (copy_of s w x) (request_of s w x) x e)) (counted (settled s (write_staged s w.tables x.object x.value)).count)))
          (λ e. rw (a, (delivers e).1, e))
          (λ e. other (λ f. omega arith) (rw (answers _ (lose_performed s w.tables (copy_of s w x) (request_of s w x) x e))))
          (λ e. other (λ f. omega arith) (rw (answers _ (double_performed s w.tables (copy_of s w x) (request_of s w x) x e))))
          (λ e. other (λ f. omega arith) (rw (answers _ (server_performed s w.tables (copy_of s w x) (request_of s w x) x e))))
          (λ e. other (λ f. omega arith) (rw (answers _ (client_performed s w.tables (copy_of s w x) (request_of s w x) x e))))

  pub grants_told : (d o : ℕ) → GrantTold d o
  unfolding grants
  grants_told d o = ⊎_elim (λ a. accepted_told a d o) (λ a. rw (refused_answer s w x a) (rw a)) (true_or_false (accepts s w x))

  -- ---- the reason, where a copy was erased
  by_delivery : (d : ℕ) → delivers_to s w x d ≡ true → cause w x ≡ cause_by x (answer_of s w x)
  unfolding cause
  by_delivery d t =
      let p = and-true (accepts s w x) _ t in
      let e = eqb-true x.kind 5 (and-true (is_deliver x) _ p.1).0 in
      rw (delivers p.0 e).1

  by_restart : (d : ℕ) → restarts s w x d ≡ true → cause w x ≡ cause_by x (answer_of s w x)
  unfolding cause restarts
  by_restart d t = rw (and-true (is_restart_client x) _ (and-true (accepts s w x) _ t).1).0

  cause_told : (d o : ℕ) → How s d o w x → cause w x ≡ cause_by x (answer_of s w x)
  unfolding invalidates offers
  cause_told d o h = by_why (cause w x) refl
    where
      by_why : (y : Why) → cause w x ≡ y → cause w x ≡ cause_by x (answer_of s w x)
      by_why NoCause e = let p = rw e at h.above in absurd (omega arith)
      by_why NeverGranted e = let p = rw e at h.above in absurd (omega arith)
      by_why CopyInvalidated e = by_delivery d (and-true _ _ (h.two e)).0
      by_why LeasesDropped e = by_delivery d (and-true _ _ (h.three e)).0
      by_why ClientRestarted e = by_restart d (h.four e)
      by_why VolumeLeaseRanOut e = let p = rw e at h.below in absurd (omega arith)
      by_why ObjectLeaseRanOut e = let p = rw e at h.below in absurd (omega arith)

  -- what is told by the answer is the event
  pub event_told : SoundWorld s w → (d o : ℕ) → d < s.clients → o < s.objects
      → event_of s w x d o ≡ event_by d o (request_at w.requests d) (copy_at s w.copies d o) (copy_at s (stepped s w x).copies d o) x (answer_of s w x)
  unfolding event_of event_by erases
  event_told sound d o hd ho = ⊎_elim filling unfilled (true_or_false (grants s w x d o))
    where
      told : granted_by (request_at w.requests d) d o (answer_of s w x) ≡ grants s w x d o
      told = sym (grants_told d o)

      Same : Type 0
      Same =
          cond (grants s w x d o) (Some Granted) (cond (erases s w x d o) (Some (Erased (cause w x))) None)
          ≡ cond (granted_by (request_at w.requests d) d o (answer_of s w x)) (Some Granted) (cond (erases s w x d o) (Some (Erased (cause_by x (answer_of s w x)))) None)

      filling : grants s w x d o ≡ true → Same
      filling g = rw told (rw g)

      unfilled : grants s w x d o ≡ false → Same
      unfilled g =
          rw told (rw g (⊎_elim (λ v. rw v (ap (λ (y : Why). Some (Erased y)) (cause_told d o (how s d o hd ho w x sound g v)))) (λ v. rw v) (true_or_false (erases s w x d o))))
