-- 01, "Steps" and "Messages received" of a client, and its restart.
-- c is a copy, r the request and u the views of the client d; in a message n is the number, e the epoch, w the version, x the volume expiry, y the
-- object expiry, p the payload and m the set.
use Rattle.std.specs.Prelude.{ℕ, ◌+◌, ◌-◌, ◌<◌, Bool, true, false, cond, not, ◌&&◌, List, eqb, get_or, set, Option, None, Some}
use Rattle.laws.specs.Loop.{fold_from}
use Rattle.laws.specs.Sets.{bit_at}
use Rattle.laws.specs.Store.{store_each, always}
use Rattle.protocol.specs.declared.message.Message.{Message}
use Rattle.protocol.specs.declared.message.Kind.TheVariants.{Renew}
use Rattle.protocol.specs.declared.records.Copy.{Copy}
use Rattle.protocol.specs.declared.records.Request.{Request}
use Rattle.protocol.specs.declared.setup.Setup.{Setup}
use Rattle.protocol.specs.declared.step.Change.{Change}
use Rattle.protocol.specs.declared.step.CopyChange.{CopyChange}
use Rattle.protocol.specs.declared.step.CopyChange.TheVariants as copy
use Rattle.protocol.specs.declared.step.Sweep.{Sweep}
use Rattle.protocol.specs.declared.step.Sweep.TheVariants.{Keep, Expire, Forget, Erase}
use Rattle.protocol.specs.declared.step.Turn.{Turn}
use Rattle.protocol.specs.declared.step.Turn.TheVariants as request
use Rattle.protocol.specs.declared.tables.Views.{Views}
use Rattle.protocol.specs.declared.tables.Tables.{Tables}
use Rattle.protocol.specs.Setup.{volume_of}
use Rattle.protocol.specs.Messages.{message}
use Rattle.protocol.specs.Tables.{by_volume, view_epoch_at, view_expiry_at, no_copy}
use Rattle.protocol.specs.Updates.{with_view_epoch, with_view_expiry, set_view_epoch, set_view_expiry}
use Rattle.protocol.specs.Leases.{client_alive, client_clock}

-- Step 2: "copy present and both leases alive"
unfoldable pub showable : Setup → Tables → Copy → ℕ → ℕ → Bool
showable s t c d o =
    not (eqb c.version 0)
    && (client_alive (client_clock t.clock d) (view_expiry_at t d (volume_of s o)) && client_alive (client_clock t.clock d) c.expiry)

-- Step 3: "take the next number, replace the standing request"
abbrev pub numbered : Request → ℕ → Request
numbered r o = record { next = r.next + 1; standing = true; number = r.next; object = o }

-- Step 3: "send RENEW with number, known epoch and held version"
abbrev pub renewal : Setup → Tables → Copy → Request → ℕ → ℕ → Message
renewal s t c r d o = message d (Renew o r.next (view_epoch_at t d (volume_of s o)) c.version)

-- "end the request"
abbrev pub ended : Request → Request
ended r = record { next = r.next; standing = false; number = 0; object = 0 }

-- what a turn makes of a request
abbrev pub turned : Request → Turn → Request
turned r request.Keep = r
turned r (request.Take o) = numbered r o
turned r request.End = ended r

-- a number is taken only where one is left
abbrev pub CanTurn : Request → Turn → Type 0
CanTurn r request.Keep = Unit
CanTurn r (request.Take o) = r.next < 4294967295
CanTurn r request.End = Unit

-- what a change makes of a copy
abbrev pub changed : Copy → CopyChange → Copy
changed c copy.Keep = c
changed c (copy.Fill f) = f
changed c copy.Erase = no_copy

-- "needs the standing number"
unfoldable pub stands : Request → ℕ → Bool
stands r n = r.standing && eqb r.number n

-- what the client knows of a volume
abbrev pub viewed : Views → ℕ → ℕ → ℕ → ℕ → Views
viewed u d v e x = set_view_expiry (set_view_epoch u d v e) d v x

-- ---- GRANT

-- 02, A4: "A GRANT without a value .. keeps the value held."
abbrev pub payload_or : ℕ → Option ℕ → ℕ
payload_or held None = held
payload_or held (Some a) = a

-- "store its fields": version w and object expiry y
abbrev pub filled : Copy → ℕ → ℕ → Option ℕ → Copy
filled c w y p = record { version = w; value = payload_or c.value p; expiry = y }

-- what becomes of the client's records: "store its fields .. and end the request". 02, A4: "A GRANT without a value now always stores its other fields"
abbrev pub grant_stored : Copy → ℕ → ℕ → Option ℕ → Change
grant_stored c w y p = record { copy = copy.Fill (filled c w y p); request = request.End; sweep = Keep }

-- ---- INVALIDATE: "forget a standing request for that object"
abbrev pub asks_for : Request → ℕ → Bool
asks_for r o = r.standing && eqb r.object o

unfoldable pub forgotten : Request → ℕ → Turn
forgotten r o = cond (asks_for r o) request.End request.Keep

-- ---- OFFER, BATCH, and Step 9: what becomes of each copy of the client, for object o. An OFFER leaves versions and values: "all its object expiries to 0".
-- 02, A6, a BATCH of the set m: "erases those copies"
unfoldable pub swept : Setup → Sweep → Copy → ℕ → Copy
swept s Keep c o = c
swept s (Expire v) c o = cond (eqb (volume_of s o) v) (record { version = c.version; value = c.value; expiry = 0 }) c
swept s (Forget m) c o = cond (bit_at m o) no_copy c
swept s Erase c o = no_copy

-- how many copies a sweep goes over
abbrev pub sweeps : Sweep → ℕ → ℕ
sweeps Keep n = 0
sweeps (Expire v) n = n
sweeps (Forget m) n = n
sweeps Erase n = n

-- one turn, at place k of a list in which the client's copies begin at `first`
abbrev pub sweep_at : Setup → Sweep → ℕ → List Copy → ℕ → List Copy
sweep_at s g first l k = set l k (swept s g (get_or l k no_copy) (k - first))

unfoldable pub swept_all : Setup → Sweep → ℕ → List Copy → List Copy
swept_all s g first l = fold_from (sweep_at s g first) l first (sweeps g s.objects)

-- Step 9: "only its next request number remains": what the client knows of each volume goes
unfoldable pub client_restarted : Setup → Views → ℕ → Views
client_restarted s u d =
    with_view_expiry
    (with_view_epoch u (store_each always (by_volume d) (λ (v : ℕ). 0) u.epoch s.volumes))
    (store_each always (by_volume d) (λ (v : ℕ). 0) u.expiry s.volumes)
