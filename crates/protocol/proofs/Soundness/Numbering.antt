-- Where a step takes a request number, one is left: question 6.
use Rattle.std.specs.Prelude.{ℕ}
use Rattle.std.proofs.Common.{⊎_elim}
use Rattle.laws.specs.Choice.{cond_keeps, true_or_false}
use Rattle.protocol.specs.declared.message.Kind.{Kind}
use Rattle.protocol.specs.declared.message.Kind.TheVariants.{Renew, Grant, Invalidate, Ack, Offer, Dropped, Batch, Cleared}
use Rattle.protocol.specs.declared.records.Copy.{Copy}
use Rattle.protocol.specs.declared.records.Request.{Request}
use Rattle.protocol.specs.declared.setup.Setup.{Setup}
use Rattle.protocol.specs.declared.step.Decision.{Decision}
use Rattle.protocol.specs.declared.step.Step.{Step}
use Rattle.protocol.specs.declared.tables.Tables.{Tables}
use Rattle.protocol.specs.Client.{CanTurn, showable, stands, forgotten, asks_for}
use Rattle.protocol.specs.Decide.{Received, grant_received, invalidate_received, offer_received, batch_received, received, read_decided, ask_decided, deliver_decided, restart_decided, performed}
use Rattle.protocol.specs.World.{World, decision}
use Rattle.protocol.specs.Ledger.{accepts}
use Rattle.protocol.specs.Soundness.StepCases.{Passed, request_of}
use Rattle.protocol.proofs.Soundness.StepCases.{accepted, decision_accepted, decision_refused, next_grows, by_kind, clock_performed, read_performed, ask_performed, write_performed, deliver_performed, lose_performed, double_performed, server_performed, client_performed}

module _ (r : Request) where
  abbrev Does : Decision → Type 0
  Does g = CanTurn r g.change.request

  -- no message takes a number
  module _ (s : Setup) (t : Tables) (c : Copy) where
    received_turns : (d : ℕ) (k : Kind) → CanTurn r (received s t c r d k).change.request
    unfolding received grant_received invalidate_received offer_received batch_received forgotten
    received_turns d (Renew o n e w) = tt
    received_turns d (Grant o n x e w y p) = cond_keeps (λ (g : Received). CanTurn r g.change.request) (stands r n) (λ _. tt) (λ _. tt)
    received_turns d (Invalidate o e w) = cond_keeps (CanTurn r) (asks_for r o) (λ _. tt) (λ _. tt)
    received_turns d (Ack o e w) = tt
    received_turns d (Offer v n e) = cond_keeps (λ (g : Received). CanTurn r g.change.request) (stands r n) (λ _. tt) (λ _. tt)
    received_turns d (Dropped v n e) = tt
    received_turns d (Batch v n e m) = cond_keeps (λ (g : Received). CanTurn r g.change.request) (stands r n) (λ _. tt) (λ _. tt)
    received_turns d (Cleared v n e m) = tt

  pub performed_turns : (s : Setup) (t : Tables) (c : Copy) (x : Step) → Passed s t r x → Does (performed s t c r x)
  unfolding read_decided ask_decided deliver_decided restart_decided
  performed_turns s t c x a =
      by_kind (Does (performed s t c r x)) x a.knows
      (λ e. rw (clock_performed s t c r x e) tt)
      (λ e. rw (read_performed s t c r x e) (cond_keeps Does (showable s t c x.client x.object) (λ _. tt) (λ _. tt)))
      (λ e. rw (ask_performed s t c r x e) (next_grows a e))
      (λ e. rw (write_performed s t c r x e) tt)
      (λ e. rw (deliver_performed s t c r x e) (received_turns s _ c _ _))
      (λ e. rw (lose_performed s t c r x e) tt)
      (λ e. rw (double_performed s t c r x e) tt)
      (λ e. rw (server_performed s t c r x e) tt)
      (λ e. rw (client_performed s t c r x e) tt)

pub decision_turns : (s : Setup) (w : World) (x : Step) → CanTurn (request_of s w x) (decision s w x).change.request
decision_turns s w x =
    ⊎_elim
    (λ a. rw (decision_accepted s w x a) (performed_turns (request_of s w x) s w.tables _ x (accepted s w x a).passes))
    (λ a. rw (decision_refused s w x a) tt)
    (true_or_false (accepts s w x))
