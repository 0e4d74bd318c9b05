-- 01, "Steps" and "Messages received": one step decided, on the tables, the one copy and the one request that it can touch.
-- Letters: s setup, t tables, c the copy, r the request, d client, o object, v volume, i a place in the message list, m a message or a set, n the number, e
-- epoch, w version, x and y a GRANT's volume and object expiry, p its payload; g a change or what is received, a an answer, k a refusal; of a step, x is
-- the step.
use Rattle.std.specs.Prelude.{ℕ, Bool, cond, eqb, Option}
use Rattle.protocol.specs.declared.message.Message.{Message}
use Rattle.protocol.specs.declared.message.Kind.{Kind}
use Rattle.protocol.specs.declared.message.Kind.TheVariants.{Renew, Grant, Invalidate, Ack, Offer, Dropped, Batch, Cleared}
use Rattle.protocol.specs.declared.records.Copy.{Copy}
use Rattle.protocol.specs.declared.records.Request.{Request}
use Rattle.protocol.specs.declared.setup.Setup.{Setup}
use Rattle.protocol.specs.declared.step.Answer.{Answer}
use Rattle.protocol.specs.declared.step.Answer.TheVariants as answer
use Rattle.protocol.specs.declared.step.Change.{Change}
use Rattle.protocol.specs.declared.step.CopyChange.TheVariants as copy
use Rattle.protocol.specs.declared.step.Decision.{Decision}
use Rattle.protocol.specs.declared.step.Step.{Step}
use Rattle.protocol.specs.declared.step.Sweep.TheVariants as sweep
use Rattle.protocol.specs.declared.step.Turn.TheVariants as request
use Rattle.protocol.specs.declared.tables.Tables.{Tables}
use Rattle.protocol.specs.Setup.{volume_of}
use Rattle.protocol.specs.Messages.{message, message_at, removed, doubled}
use Rattle.protocol.specs.Tables.{with_views, with_queue}
use Rattle.protocol.specs.Writes.{Counted, settled, write_staged, clock_staged}
use Rattle.protocol.specs.Server.{sent, renewed, ack_staged, drop_staged, notes_cleared, server_restarted}
use Rattle.protocol.specs.Client.{showable, renewal, stands, viewed, grant_stored, forgotten, client_restarted}
use Rattle.protocol.specs.Answers.{completed_answer}
use Rattle.protocol.specs.Gate.{is_clock, is_read, is_ask, is_write, is_deliver, is_lose, is_double, is_restart_server, refusal}

-- the client's records stay
abbrev pub kept : Change
kept = record { copy = copy.Keep; request = request.Keep; sweep = sweep.Keep }

abbrev pub uncounted : Tables → Counted
uncounted t = record { count = 0; tables = t }

-- ---- a message received: what becomes of the client's records and of the tables
pub record Received : Type 0 where
  pub change : Change
  pub counted : Counted

-- the server receives: the client's records stay
abbrev pub by_server : Counted → Received
by_server n = record { change = kept; counted = n }

-- the client receives: no write completes
abbrev pub by_client : Change → Tables → Received
by_client g t = record { change = g; counted = uncounted t }

-- GRANT: "needs the standing number, else nothing", and then "store its fields, epoch too, and end the request"
unfoldable pub grant_received : Setup → Tables → Copy → Request → ℕ → ℕ → ℕ → ℕ → ℕ → ℕ → ℕ → Option ℕ → Received
grant_received s t c r d o n x e w y p =
    cond (stands r n) (by_client (grant_stored c w y p) (with_views t (viewed t.views d (volume_of s o) e x))) (by_client kept t)

-- INVALIDATE: "erase the copy, forget a standing request for that object, send ACK with the same epoch and new version"
unfoldable pub invalidate_received : Tables → Request → ℕ → ℕ → ℕ → ℕ → Received
invalidate_received t r d o e w = by_client (record { copy = copy.Erase; request = forgotten r o; sweep = sweep.Keep }) (sent t (message d (Ack o e w)))

-- OFFER: "Take its epoch, set that volume's expiry and all its object expiries to 0, end the request, send DROPPED with that number and epoch."
unfoldable pub offer_received : Tables → Request → ℕ → ℕ → ℕ → ℕ → Received
offer_received t r d v n e =
    cond (stands r n)
    (by_client (record { copy = copy.Keep; request = request.End; sweep = sweep.Expire v }) (sent (with_views t (viewed t.views d v e 0)) (message d (Dropped v n e))))
    (by_client kept t)

-- 02, A6, BATCH: "With that number standing the dash erases those copies, ends the request and sends CLEARED (kind 8) with number, epoch and set"
unfoldable pub batch_received : Tables → Request → ℕ → ℕ → ℕ → ℕ → ℕ → Received
batch_received t r d v n e m =
    cond (stands r n)
    (by_client (record { copy = copy.Keep; request = request.End; sweep = sweep.Forget m }) (sent t (message d (Cleared v n e m))))
    (by_client kept t)

unfoldable pub received : Setup → Tables → Copy → Request → ℕ → Kind → Received
received s t c r d (Renew o n e w) = by_server (uncounted (renewed s t d o n e w))
received s t c r d (Grant o n x e w y p) = grant_received s t c r d o n x e w y p
received s t c r d (Invalidate o e w) = invalidate_received t r d o e w
received s t c r d (Ack o e w) = by_server (settled s (ack_staged s t d o e w))
received s t c r d (Offer v n e) = offer_received t r d v n e
received s t c r d (Dropped v n e) = by_server (settled s (drop_staged s t d v n e))
received s t c r d (Batch v n e m) = batch_received t r d v n e m
received s t c r d (Cleared v n e m) = by_server (uncounted (notes_cleared s t d v n e m))

-- ---- the nine steps

abbrev pub answered : Change → Tables → Answer → Decision
answered g t a = record { change = g; outcome = record { answer = a; tables = t } }

-- Steps 1 and 4
abbrev pub counting : Counted → Decision
counting n = answered kept n.tables (completed_answer n.count)

-- Step 2: "shown with its value; else "ask first"" and no table changes
unfoldable pub read_decided : Setup → Tables → Copy → ℕ → ℕ → Decision
read_decided s t c d o = cond (showable s t c d o) (answered kept t (answer.Shown c.value)) (answered kept t answer.AskFirst)

-- Step 3: "take the next number, replace the standing request", and a RENEW is sent
unfoldable pub ask_decided : Setup → Tables → Copy → Request → ℕ → ℕ → Decision
ask_decided s t c r d o =
    answered (record { copy = copy.Keep; request = request.Take o; sweep = sweep.Keep }) (sent t (renewal s t c r d o)) answer.Done

-- Step 5: "remove the message, then receive it"
abbrev pub delivered : Message → Received → Decision
delivered m g = answered g.change g.counted.tables (answer.Delivered m g.counted.count)

abbrev pub taken : Tables → ℕ → Tables
taken t i = with_queue t (removed t.queue i)

unfoldable pub deliver_decided : Setup → Tables → Copy → Request → ℕ → Decision
deliver_decided s t c r i =
    delivered (message_at t.queue i) (received s (taken t i) c r (message_at t.queue i).client (message_at t.queue i).kind)

-- Step 9: "only its next request number remains"
unfoldable pub restart_decided : Setup → Tables → ℕ → Decision
restart_decided s t d =
    answered (record { copy = copy.Keep; request = request.End; sweep = sweep.Erase }) (with_views t (client_restarted s t.views d)) answer.Done

-- an accepted step, by its kind
unfoldable pub performed : Setup → Tables → Copy → Request → Step → Decision
performed s t c r x =
    cond (is_clock x) (counting (settled s (clock_staged s t x.clock)))
    (cond (is_read x) (read_decided s t c x.client x.object)
    (cond (is_ask x) (ask_decided s t c r x.client x.object)
    (cond (is_write x) (counting (settled s (write_staged s t x.object x.value)))
    (cond (is_deliver x) (deliver_decided s t c r x.place)
    (cond (is_lose x) (answered kept (taken t x.place) answer.Done)
    (cond (is_double x) (answered kept (with_queue t (doubled t.queue x.place)) answer.Done)
    (cond (is_restart_server x) (answered kept (server_restarted s t) answer.Done)
    (restart_decided s t x.client))))))))

-- "the first "no" gives its number, nothing else, and every lent table and buffer is unchanged"
abbrev pub refused_with : Tables → ℕ → Decision
refused_with t k = answered kept t (answer.Refused k)

abbrev pub decided_by : ℕ → Setup → Tables → Copy → Request → Step → Decision
decided_by k s t c r x = cond (eqb k 0) (performed s t c r x) (refused_with t k)

-- one step, on any input whatever; `records` says whether all lent records are sound
unfoldable pub decided : Setup → Tables → Bool → Copy → Request → Step → Decision
decided s t records c r x = decided_by (refusal s t records r x) s t c r x
