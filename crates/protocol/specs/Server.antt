-- 01, "Messages received" by the server, and its restart.
-- Letters: s setup, t tables, d client, o object, v volume; of a message m, n number, e epoch, w version; m is a set too.
use Rattle.std.specs.Prelude.{ℕ, ◌+◌, Bool, false, cond, not, ◌&&◌, ◌||◌, ltb, leb, eqb, Option, None, Some}
use Rattle.laws.specs.Loop.{first_from}
use Rattle.laws.specs.Sets.{bit_at, less, removed}
use Rattle.laws.specs.Store.{store_each, always}
use Rattle.protocol.specs.declared.message.Message.{Message}
use Rattle.protocol.specs.declared.message.Kind.TheVariants.{Grant, Offer, Batch}
use Rattle.protocol.specs.declared.setup.Setup.{Setup}
use Rattle.protocol.specs.declared.tables.Volumes.{Volumes}
use Rattle.protocol.specs.declared.tables.Objects.{Objects}
use Rattle.protocol.specs.declared.tables.Holders.{Holders}
use Rattle.protocol.specs.declared.tables.Tables.{Tables}
use Rattle.protocol.specs.Setup.{volume_of}
use Rattle.protocol.specs.Messages.{message, pushed}
use Rattle.protocol.specs.Tables.{by_object, epoch_at, seen_at, unreachable_at, offer_at, notes_at, batch_at, value_at, version_at, standing_at, awaited_at, waiting_at, with_volumes, with_sessions, with_objects, with_holders, with_queue, fresh_sessions, fresh_objects, fresh_holders}
use Rattle.protocol.specs.Updates.{with_epoch, with_guard, set_volume_expiry, set_seen, set_session_expiry, set_unreachable, set_offer, set_notes, set_batch, with_value, with_version, set_object_expiry, with_lease, with_waiting, set_lease, set_waiting}
use Rattle.protocol.specs.Writes.{Staged, unstaged, invalidation, ready, marked}

-- one message sent
abbrev pub sent : Tables → Message → Tables
sent t m = with_queue t (pushed t.queue m)

-- ---- RENEW (object o, number n, known epoch e, held version w) of client d

-- "Otherwise note it"
unfoldable pub noted : Tables → ℕ → ℕ → Tables
noted t d n = with_sessions t (set_seen t.sessions d n)

-- "mark unreachable, offer number := number"
unfoldable pub offered : Tables → ℕ → ℕ → ℕ → Tables
offered t d v n = with_sessions t (set_offer (marked t.sessions d v) d v n)

-- ".. send OFFER"
abbrev pub offering : Tables → ℕ → ℕ → ℕ → Message
offering t d v n = message d (Offer v n (epoch_at t v))

-- 02, A6: "No volume lease is given while notes remain."
abbrev pub has_notes : Tables → ℕ → ℕ → Bool
has_notes t d v = not (eqb (notes_at t d v) 0)

-- the batch last sent is the RENEW's
unfoldable pub batched : Tables → ℕ → ℕ → ℕ → Tables
batched t d v n = with_sessions t (set_batch t.sessions d v n)

-- "answered by BATCH (kind 7) with number, epoch and the noted set"
abbrev pub batching : Tables → ℕ → ℕ → ℕ → Message
batching t d v n = message d (Batch v n (epoch_at t v) (notes_at t d v))

-- "Dash waited for in this volume": whether o is of volume v, and its standing write waits for d
abbrev pub waited_in : Setup → Tables → ℕ → ℕ → ℕ → Bool
waited_in s t d v o = eqb (volume_of s o) v && (standing_at t o && waiting_at t d o)

-- "its lowest such object", or the number of objects where there is none
unfoldable pub lowest_waited : Setup → Tables → ℕ → ℕ → ℕ
lowest_waited s t d v = first_from (waited_in s t d v) 0 s.objects

-- "volume expiry and VE := clock + tv"
unfoldable pub volume_renewed : Setup → Tables → ℕ → ℕ → Tables
volume_renewed s t d v =
    with_volumes (with_sessions t (set_session_expiry t.sessions d v (t.clock + s.tv))) (set_volume_expiry t.volumes v (t.clock + s.tv))

-- "object expiry and OE := clock + t"
unfoldable pub object_renewed : Setup → Tables → ℕ → ℕ → Tables
object_renewed s t d o =
    with_objects (with_holders t (set_lease t.holders d o (t.clock + s.t))) (set_object_expiry t.objects o (t.clock + s.t))

-- "with value unless versions are equal": w is the one that the client holds
abbrev pub same_version : Tables → ℕ → ℕ → Bool
same_version t o w = eqb (version_at t o) w

abbrev pub payload_for : Tables → ℕ → ℕ → Option ℕ
payload_for t o w = cond (same_version t o w) None (Some (value_at t o))

-- "send GRANT"
abbrev pub granting : Setup → Tables → ℕ → ℕ → ℕ → ℕ → Message
granting s t d o n w =
    message d (Grant o n (t.clock + s.tv) (epoch_at t (volume_of s o)) (version_at t o) (t.clock + s.t) (payload_for t o w))

unfoldable pub granted : Setup → Tables → ℕ → ℕ → ℕ → ℕ → Tables
granted s t d o n w = sent (object_renewed s (volume_renewed s t d (volume_of s o)) d o) (granting s t d o n w)

-- "Epoch differs or dash unreachable": no lease before the client has dropped what it holds
unfoldable pub must_drop : Tables → ℕ → ℕ → ℕ → Bool
must_drop t d v e = not (eqb e (epoch_at t v)) || unreachable_at t d v

-- "This object has a standing write"
abbrev pub being_written : Tables → ℕ → Bool
being_written t o = standing_at t o

-- "take the first rule that fits". 02, A6: "Its RENEW there, after the epoch rule, is answered by BATCH"
unfoldable pub renewed_by : Setup → Tables → ℕ → ℕ → ℕ → ℕ → ℕ → Tables
renewed_by s t d o n e w =
    cond (must_drop t d (volume_of s o) e) (sent (offered t d (volume_of s o) n) (offering t d (volume_of s o) n))
    (cond (has_notes t d (volume_of s o)) (sent (batched t d (volume_of s o) n) (batching t d (volume_of s o) n))
    (cond (ltb (lowest_waited s t d (volume_of s o)) s.objects) (sent t (invalidation s t (lowest_waited s t d (volume_of s o)) d))
    (cond (being_written t o) t (granted s t d o n w))))

-- "number not above the highest seen": an old RENEW, or a double of one
abbrev pub stale : Tables → ℕ → ℕ → Bool
stale t d n = leb n (seen_at t d)

-- ".. nothing"
unfoldable pub renewed : Setup → Tables → ℕ → ℕ → ℕ → ℕ → ℕ → Tables
renewed s t d o n e w = cond (stale t d n) t (renewed_by s (noted t d n) d o n e w)

-- ---- ACK (object o, epoch e, new version w) of client d

-- "needs a standing write, its epoch and its new version"
unfoldable pub ack_taken : Setup → Tables → ℕ → ℕ → ℕ → Bool
ack_taken s t o e w = standing_at t o && (eqb e (epoch_at t (volume_of s o)) && eqb w (version_at t o + 1))

-- "Clear that dash's object lease and its waiting"
unfoldable pub acked : Tables → ℕ → ℕ → Tables
acked t d o = with_holders t (set_waiting (set_lease t.holders d o 0) o (removed (awaited_at t o) d))

-- "complete if none waits and the clock is at or past guard"
unfoldable pub ack_staged : Setup → Tables → ℕ → ℕ → ℕ → ℕ → Staged
ack_staged s t d o e w = cond (ack_taken s t o e w) (record { tables = acked t d o; test = ready s; from = o; many = 1 }) (unstaged t)

-- ---- DROPPED (volume v, number n, epoch e) of client d

-- "needs the epoch and a nonzero equal offer number"
unfoldable pub drop_taken : Tables → ℕ → ℕ → ℕ → ℕ → Bool
drop_taken t d v n e = eqb e (epoch_at t v) && (not (eqb n 0) && eqb n (offer_at t d v))

abbrev pub of_volume : Setup → ℕ → ℕ → Bool
of_volume s v o = eqb (volume_of s o) v

-- what a DROPPED leaves of the client's object leases in the volume, and of its waiting there: none
unfoldable pub disowned : Setup → Tables → ℕ → ℕ → Holders
disowned s t d v =
    with_waiting
    (with_lease t.holders (store_each (of_volume s v) (by_object d) (λ (o : ℕ). 0) t.holders.lease s.objects))
    (store_each (of_volume s v) (λ (o : ℕ). o) (λ (o : ℕ). removed (awaited_at t o) d) t.holders.waiting s.objects)

-- "Clear the dash's leases in the volume, mark, offer and waiting there"
unfoldable pub dropped : Setup → Tables → ℕ → ℕ → Tables
dropped s t d v =
    with_holders (with_sessions t (set_offer (set_unreachable (set_session_expiry t.sessions d v 0) d v false) d v 0)) (disowned s t d v)

abbrev pub ready_in : Setup → ℕ → Tables → ℕ → Bool
ready_in s v t o = of_volume s v o && ready s t o

-- "then, in object order, complete each standing write of the volume on ACK's condition"
unfoldable pub drop_staged : Setup → Tables → ℕ → ℕ → ℕ → ℕ → Staged
drop_staged s t d v n e =
    cond (drop_taken t d v n e) (record { tables = dropped s t d v; test = ready_in s v; from = 0; many = s.objects }) (unstaged t)

-- ---- 02, A6, CLEARED (volume v, number n, epoch e, set m) of client d

-- "only if number and epoch match the batch last sent"; 0 is none
unfoldable pub clear_taken : Tables → ℕ → ℕ → ℕ → ℕ → Bool
clear_taken t d v n e = eqb e (epoch_at t v) && (not (eqb n 0) && eqb n (batch_at t d v))

-- "drops the notes and leases of the set in CLEARED", and "an accepted CLEARED ends" the batch; it completes nothing
unfoldable pub notes_dropped : Setup → Tables → ℕ → ℕ → ℕ → Tables
notes_dropped s t d v m =
    with_holders (with_sessions t (set_batch (set_notes t.sessions d v (less (notes_at t d v) m)) d v 0))
    (with_lease t.holders (store_each (bit_at m) (by_object d) (λ (o : ℕ). 0) t.holders.lease s.objects))

unfoldable pub notes_cleared : Setup → Tables → ℕ → ℕ → ℕ → ℕ → ℕ → Tables
notes_cleared s t d v n e m = cond (clear_taken t d v n e) (notes_dropped s t d v m) t

-- ---- Step 8: "values, versions, VE remain; every epoch grows by 1; guard becomes VE; its other fields become fresh. Messages remain."

-- of the volumes: VE remains, "every epoch grows by 1; guard becomes VE". The slots past the counts: guard becomes VE there too, and epochs stay
abbrev pub volumes_restarted : Setup → Tables → Volumes
volumes_restarted s t =
    with_guard (with_epoch t.volumes (store_each always (λ (v : ℕ). v) (λ (v : ℕ). epoch_at t v + 1) t.volumes.epoch s.volumes)) t.volumes.expiry

-- of the objects: "values, versions .. remain"
abbrev pub objects_restarted : Tables → Objects
objects_restarted t = with_version (with_value fresh_objects t.objects.value) t.objects.version

-- 02, A6: "A server restart loses notes."
unfoldable pub server_restarted : Setup → Tables → Tables
server_restarted s t =
    with_holders (with_objects (with_sessions (with_volumes t (volumes_restarted s t)) fresh_sessions) (objects_restarted t)) fresh_holders
