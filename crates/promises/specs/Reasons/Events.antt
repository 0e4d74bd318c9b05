-- 02, A8: "The last erasing or granting event for that dash and object in its line decides; erasing means that the copy's version or expiry went from nonzero
-- to 0."
-- Letters: s setup, w world, x a step, k a kind of message, d client, o object, c and g the copy before and after, e an entry of a line, l a line.
use Rattle.std.specs.Prelude.{ℕ, Bool, false, cond, not, ◌&&◌, ◌||◌, List, eqb, Option, None, Some}
use Rattle.laws.specs.Sets.{bit_at}
use Rattle.laws.specs.Line.{made}
use Rattle.protocol.specs.declared.message.Kind.{Kind}
use Rattle.protocol.specs.declared.message.Kind.TheVariants.{Renew, Grant, Invalidate, Ack, Offer, Dropped, Batch, Cleared}
use Rattle.protocol.specs.declared.message.Message.{Message}
use Rattle.protocol.specs.declared.records.Copy.{Copy}
use Rattle.protocol.specs.declared.records.Request.{Request}
use Rattle.protocol.specs.declared.setup.Setup.{Setup}
use Rattle.protocol.specs.declared.step.Step.{Step}
use Rattle.protocol.specs.Setup.{volume_of}
use Rattle.protocol.specs.Messages.{message_at}
use Rattle.protocol.specs.Client.{stands}
use Rattle.protocol.specs.Gate.{is_deliver, is_restart_client}
use Rattle.protocol.specs.World.{World, fresh_world, stepped}
use Rattle.protocol.specs.Ledger.{accepts}
use Rattle.protocol.specs.Safety.View.{copy_at, request_at}
use Rattle.protocol.specs.Line.{Entry}
use Rattle.promises.specs.declared.reasons.Event.{Event}
use Rattle.promises.specs.declared.reasons.Event.TheVariants.{Granted, Erased}
use Rattle.promises.specs.declared.reasons.Last.{Last}
use Rattle.promises.specs.declared.reasons.Why.{Why}
use Rattle.promises.specs.declared.reasons.Why.TheVariants.{NoCause, CopyInvalidated, LeasesDropped, ClientRestarted}

-- ---- what a step does to client d's copy of object o
abbrev pub delivered_by : World → Step → Message
delivered_by w x = message_at w.tables.queue x.place

-- an accepted step that delivers a message to client d
abbrev pub delivers_to : Setup → World → Step → ℕ → Bool
delivers_to s w x d = accepts s w x && (is_deliver x && eqb (delivered_by w x).client d)

-- a GRANT of o whose number stands
abbrev pub is_grant : Request → ℕ → Kind → Bool
is_grant r o (Renew _ _ _ _) = false
is_grant r o (Grant i n _ _ _ _ _) = eqb i o && stands r n
is_grant r o (Invalidate _ _ _) = false
is_grant r o (Ack _ _ _) = false
is_grant r o (Offer _ _ _) = false
is_grant r o (Dropped _ _ _) = false
is_grant r o (Batch _ _ _ _) = false
is_grant r o (Cleared _ _ _ _) = false

abbrev pub is_invalidate : ℕ → Kind → Bool
is_invalidate o (Renew _ _ _ _) = false
is_invalidate o (Grant _ _ _ _ _ _ _) = false
is_invalidate o (Invalidate i _ _) = eqb i o
is_invalidate o (Ack _ _ _) = false
is_invalidate o (Offer _ _ _) = false
is_invalidate o (Dropped _ _ _) = false
is_invalidate o (Batch _ _ _ _) = false
is_invalidate o (Cleared _ _ _ _) = false

-- an OFFER of o's volume, or a BATCH with o in its set, whose number stands
abbrev pub is_offer : Setup → Request → ℕ → Kind → Bool
is_offer s r o (Renew _ _ _ _) = false
is_offer s r o (Grant _ _ _ _ _ _ _) = false
is_offer s r o (Invalidate _ _ _) = false
is_offer s r o (Ack _ _ _) = false
is_offer s r o (Offer v n _) = eqb (volume_of s o) v && stands r n
is_offer s r o (Dropped _ _ _) = false
is_offer s r o (Batch _ n _ m) = bit_at m o && stands r n
is_offer s r o (Cleared _ _ _ _) = false

-- the GRANT is stored
unfoldable pub grants : Setup → World → Step → ℕ → ℕ → Bool
grants s w x d o = delivers_to s w x d && is_grant (request_at w.requests d) o (delivered_by w x).kind

unfoldable pub invalidates : Setup → World → Step → ℕ → ℕ → Bool
invalidates s w x d o = delivers_to s w x d && is_invalidate o (delivered_by w x).kind

-- the OFFER or BATCH is taken
unfoldable pub offers : Setup → World → Step → ℕ → ℕ → Bool
offers s w x d o = delivers_to s w x d && is_offer s (request_at w.requests d) o (delivered_by w x).kind

unfoldable pub restarts : Setup → World → Step → ℕ → Bool
restarts s w x d = accepts s w x && (is_restart_client x && eqb x.client d)

-- "the copy's version or expiry went from nonzero to 0"
abbrev pub went_to_zero : ℕ → ℕ → Bool
went_to_zero a b = not (eqb a 0) && eqb b 0

unfoldable pub vanished : Copy → Copy → Bool
vanished c g = went_to_zero c.version g.version || went_to_zero c.expiry g.expiry

unfoldable pub erases : Setup → World → Step → ℕ → ℕ → Bool
erases s w x d o = vanished (copy_at s w.copies d o) (copy_at s (stepped s w x).copies d o)

abbrev pub happens : Setup → World → Step → ℕ → ℕ → Bool
happens s w x d o = grants s w x d o || erases s w x d o

-- ---- which reason an erasing step is; no other step erases a copy
-- "copy invalidated, leases dropped on an offer or batch"
abbrev pub receipt_cause : Kind → Why
receipt_cause (Renew _ _ _ _) = NoCause
receipt_cause (Grant _ _ _ _ _ _ _) = NoCause
receipt_cause (Invalidate _ _ _) = CopyInvalidated
receipt_cause (Ack _ _ _) = NoCause
receipt_cause (Offer _ _ _) = LeasesDropped
receipt_cause (Dropped _ _ _) = NoCause
receipt_cause (Batch _ _ _ _) = LeasesDropped
receipt_cause (Cleared _ _ _ _) = NoCause

-- "dash restarted"
unfoldable pub cause : World → Step → Why
cause w x = cond (is_restart_client x) ClientRestarted (receipt_cause (delivered_by w x).kind)

-- what step x on w does to the copy
unfoldable pub event_of : Setup → World → Step → ℕ → ℕ → Option Event
event_of s w x d o = cond (grants s w x d o) (Some Granted) (cond (erases s w x d o) (Some (Erased (cause w x))) None)

-- ---- the last event, with the number of its step
abbrev pub no_event : Option Last
no_event = None

-- after step n: its event, or k if it had none
abbrev pub latest : Option Last → ℕ → Option Event → Option Last
latest k n None = k
latest k n (Some g) = Some (record { event = g; step = n })

abbrev pub last_after : Setup → ℕ → ℕ → World → Option Last → Entry → Option Last
last_after s d o w k e = latest k e.number (event_of s w e.step d o)

-- beside the state, along a line
abbrev pub after : Setup → ℕ → ℕ → World × Option Last → Entry → World × Option Last
after s d o a e = (stepped s a.0 e.step, last_after s d o a.0 a.1 e)

abbrev pub last_of : Setup → ℕ → ℕ → List Entry → Option Last
last_of s d o l = (made (after s d o) (fresh_world s, no_event) l).1
