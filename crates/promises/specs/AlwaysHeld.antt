-- 02, A4: "in every run from fresh tables, a matching GRANT without a value always meets a dash that holds its version". So 01's test of it changes no run.
-- Letters: s setup, w world, x a step, xs steps, t tables, c copy, d client, o object, k a kind of message; of a GRANT n is the number, e the epoch, ver the
-- version, p and q the volume and object expiry.
use Rattle.std.specs.Prelude.{ℕ, ◌≤◌, Bool, true, false, cond, not, ◌&&◌, List, [], ◌∷◌, ◌≡◌, eqb, None, Some}
use Rattle.protocol.specs.declared.message.Kind.{Kind}
use Rattle.protocol.specs.declared.message.Kind.TheVariants.{Renew, Grant, Invalidate, Ack, Offer, Dropped, Batch, Cleared}
use Rattle.protocol.specs.declared.records.Copy.{Copy}
use Rattle.protocol.specs.declared.setup.Setup.{Setup}
use Rattle.protocol.specs.declared.step.Answer.{Answer}
use Rattle.protocol.specs.declared.step.Decision.{Decision}
use Rattle.protocol.specs.declared.step.Step.{Step}
use Rattle.protocol.specs.Messages.{message_at}
use Rattle.protocol.specs.Client.{stands}
use Rattle.protocol.specs.Gate.{is_deliver}
use Rattle.protocol.specs.Decide.{kept, by_client, delivered, taken}
use Rattle.protocol.specs.World.{World, target, decision, world_after, ran, answers}
use Rattle.protocol.specs.Ledger.{accepts}
use Rattle.protocol.specs.Soundness.StepCases.{copy_of}
use Rattle.protocol.specs.Safety.View.{copy_at, request_at}
use Rattle.protocol.specs.Safety.Invariant.{Sent, from}

-- "a matching GRANT without a value always meets a dash that holds its version": in the list, its number standing; version 0 is no copy
abbrev pub GrantsMeet : Setup → World → Type 0
GrantsMeet s w =
    (d o n p e ver q : ℕ) → Sent w.tables.queue (from d (Grant o n p e ver q None)) → stands (request_at w.requests d) n ≡ true
    → ((copy_at s w.copies d o).version ≡ ver) × (1 ≤ ver)

-- ---- the old rule

-- 01, GRANT: "Without a value and with another version held: nothing."
abbrev pub formerly_ignored : Copy → Kind → Bool
formerly_ignored c (Renew o n e ver) = false
formerly_ignored c (Grant o n p e ver q None) = not (eqb c.version ver)
formerly_ignored c (Grant o n p e ver q (Some a)) = false
formerly_ignored c (Invalidate o e ver) = false
formerly_ignored c (Ack o e ver) = false
formerly_ignored c (Offer v n e) = false
formerly_ignored c (Dropped v n e) = false
formerly_ignored c (Batch v n e m) = false
formerly_ignored c (Cleared v n e m) = false

-- That test put back into today's step: such a message is removed, and nothing else. 01 asks for the standing number first; where it does not stand, nothing
-- comes of the message either way.
abbrev pub former_decision : Setup → World → Step → Decision
former_decision s w x =
    cond (accepts s w x && (is_deliver x && formerly_ignored (copy_of s w x) (message_at w.tables.queue x.place).kind))
    (delivered (message_at w.tables.queue x.place) (by_client kept (taken w.tables x.place)))
    (decision s w x)

abbrev pub formerly_stepped : Setup → World → Step → World
formerly_stepped s w x = world_after s w (target s w.tables x) (former_decision s w x)

unfoldable pub formerly_ran : Setup → World → List Step → World
formerly_ran s w [] = w
formerly_ran s w (x ∷ xs) = formerly_ran s (formerly_stepped s w x) xs

unfoldable pub former_answers : Setup → World → List Step → List Answer
former_answers s w [] = []
former_answers s w (x ∷ xs) = (former_decision s w x).outcome.answer ∷ former_answers s (formerly_stepped s w x) xs

-- ---- in every state that a run reaches
-- .. and so a run by either leaves the same state and gets the same answers
abbrev pub SameRun : Setup → World → List Step → Type 0
SameRun s w xs = (formerly_ran s w xs ≡ ran s w xs) × (former_answers s w xs ≡ answers s w xs)
