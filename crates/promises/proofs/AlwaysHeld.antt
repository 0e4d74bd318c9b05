-- 02, A4: "in every run from fresh tables, a matching GRANT without a value always meets a dash that holds its version". So 01's test of it changes no run.
-- Letters: s setup, w world, x a step, xs steps, t tables, c copy, d client, o object, k a kind of message; of a GRANT n is the number, e the epoch, ver the
-- version, p and q the volume and object expiry.
use Rattle.std.specs.Prelude.{ℕ, true, List, [], ◌∷◌, ◌≡◌, None, Some}
use Rattle.std.proofs.Math.Logic.{⊎_elim}
use Rattle.std.proofs.Math.Path.{refl}
use Rattle.std.proofs.Common.{sym, ap}
use borrow.Author.Tests.{eqb-true, eq-eqb, not-true}
use Rattle.laws.specs.Choice.{cond_keeps, true_or_false, not_both, and-true}
use Rattle.laws.specs.Line.{OfEach}
use Rattle.protocol.specs.declared.message.Kind.{Kind}
use Rattle.protocol.specs.declared.message.Kind.TheVariants.{Renew, Grant, Invalidate, Ack, Offer, Dropped, Batch, Cleared}
use Rattle.protocol.specs.declared.setup.Setup.{Setup}
use Rattle.protocol.specs.declared.step.Answer.{Answer}
use Rattle.protocol.specs.declared.step.Decision.{Decision}
use Rattle.protocol.specs.declared.step.Step.{Step}
use Rattle.protocol.specs.declared.tables.Tables.{Tables}
use Rattle.protocol.specs.Setup.{in_range}
use Rattle.protocol.specs.Messages.{message_at, object_of}
use Rattle.protocol.specs.Client.{stands}
use Rattle.protocol.specs.Gate.{is_deliver}
use Rattle.protocol.specs.Decide.{kept, by_client, grant_received, received, delivered, taken, deliver_decided}
use Rattle.protocol.specs.World.{World, fresh_world, target, decision, stepped, answer_of, ran, answers}
use Rattle.protocol.specs.Ledger.{accepts}
use Rattle.protocol.specs.Soundness.StepCases.{copy_of, request_of}
use Rattle.protocol.proofs.Soundness.StepCases.{accepted, decision_accepted, deliver_performed, place_exists}
use Rattle.protocol.specs.Soundness.Question.{SoundWorld}
use Rattle.protocol.proofs.Soundness.Question.{stepped_sound}
use Rattle.protocol.specs.Safety.View.{copy_at, request_at}
use Rattle.protocol.specs.Safety.Invariant.{Inv, Sent, from}
use Rattle.protocol.proofs.Safety.Tools.{stands_true, sent_at_law}
use Rattle.protocol.proofs.Safety.InvariantKept.{step_keeps}
use Rattle.protocol.proofs.Reached.{run_sound, run_safe}
use Rattle.protocol.specs.Saved.{fresh_machine, moved_by}
use Rattle.protocol.proofs.Along.{each_reached}
use Rattle.promises.specs.AlwaysHeld.{GrantsMeet, formerly_ignored, former_decision, formerly_ran, former_answers, SameRun}

-- ---- on every state that satisfies the invariant
module _ (s : Setup) (w : World) (inv : Inv s w) where
  grants_meet : GrantsMeet s w
  grants_meet d o n p e ver q z a = let h = (inv.messages _ z).kind.held (stands_true w.requests d n a) in (sym h.0, h.1)

  -- so what was ignored has a number that does not stand, and nothing comes of it
  nothing_received : (t : Tables) (d : ℕ) (k : Kind) → Sent w.tables.queue (from d k) → formerly_ignored (copy_at s w.copies d (object_of k)) k ≡ true
      → by_client kept t ≡ received s t (copy_at s w.copies d (object_of k)) (request_at w.requests d) d k
  unfolding received grant_received
  nothing_received t d (Renew o n e ver) z a = not_both a refl
  nothing_received t d (Grant o n p e ver q None) z a =
      ⊎_elim (λ b. not_both (eq-eqb _ ver (grants_meet d o n p e ver q z b).0) (not-true _ a)) (λ b. rw b) (true_or_false (stands (request_at w.requests d) n))
  nothing_received t d (Grant o n p e ver q (Some y)) z a = not_both a refl
  nothing_received t d (Invalidate o e ver) z a = not_both a refl
  nothing_received t d (Ack o e ver) z a = not_both a refl
  nothing_received t d (Offer v n e) z a = not_both a refl
  nothing_received t d (Dropped v n e) z a = not_both a refl
  nothing_received t d (Batch v n e m) z a = not_both a refl
  nothing_received t d (Cleared v n e m) z a = not_both a refl

  nothing_delivered : (x : Step) → accepts s w x ≡ true → is_deliver x ≡ true
      → formerly_ignored (copy_of s w x) (message_at w.tables.queue x.place).kind ≡ true
      → delivered (message_at w.tables.queue x.place) (by_client kept (taken w.tables x.place)) ≡ decision s w x
  unfolding target deliver_decided
  nothing_delivered x a b g =
      let m = message_at w.tables.queue x.place in
      let e = eqb-true x.kind 5 b in
      let z = sent_at_law w.tables.queue x.place (place_exists (accepted s w x a).passes (rw e)) in
      rw (decision_accepted s w x a, deliver_performed s w.tables (copy_of s w x) (request_of s w x) x e, b)
      (ap (delivered m) (nothing_received (taken w.tables x.place) m.client m.kind z (rw b at g)))

  same_decided : (x : Step) → former_decision s w x ≡ decision s w x
  same_decided x =
      cond_keeps (λ (g : Decision). g ≡ decision s w x) _
      (λ a. let b = and-true (accepts s w x) _ a in let f = and-true (is_deliver x) _ b.1 in nothing_delivered x b.0 f.0 f.1) (λ a. refl)

-- ---- in every state that a run reaches
pub always_held : (s : Setup) → in_range s ≡ true → (xs : List Step) → GrantsMeet s (ran s (fresh_world s) xs)
always_held s i xs = grants_meet s (ran s (fresh_world s) xs) (run_safe s i xs)

-- with saves and returns among the steps, in the present state and in every saved one
pub held_along : (s : Setup) → in_range s ≡ true → (xs : List Step) → OfEach (GrantsMeet s) (moved_by s (fresh_machine s) xs)
held_along s i = each_reached s i (GrantsMeet s) (always_held s i)

-- the old rule and the new one decide alike there ..
pub same_decision : (s : Setup) → in_range s ≡ true → (xs : List Step) (x : Step) → former_decision s (ran s (fresh_world s) xs) x ≡ decision s (ran s (fresh_world s) xs) x
same_decision s i xs = same_decided s (ran s (fresh_world s) xs) (run_safe s i xs)

same_run_from : (s : Setup) (xs : List Step) (w : World) → SoundWorld s w → Inv s w → SameRun s w xs
unfolding formerly_ran ran former_answers answers stepped
same_run_from s [] w k inv = (refl, refl)
same_run_from s (x ∷ xs) w k inv =
    let rest = same_run_from s xs (stepped s w x) (stepped_sound s w x k) (step_keeps s w x k inv) in
    (rw (same_decided s w inv x) rest.0, rw (same_decided s w inv x) (ap (λ (l : List Answer). answer_of s w x ∷ l) rest.1))

pub same_run : (s : Setup) → in_range s ≡ true → (xs : List Step) → SameRun s (fresh_world s) xs
unfolding ran
same_run s i xs = same_run_from s xs (fresh_world s) (run_sound s i []) (run_safe s i [])
