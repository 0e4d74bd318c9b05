-- 01, "Steps": accepting a write, completing it, and which writes a step completes.
-- Letters: s setup, t and u tables, o and j objects, d client, v volume, x a value or the sessions, q the message list, g what is staged, c tables with a
-- count, n how many.
use Rattle.std.specs.Prelude.{ℕ, zero, suc, ◌+◌, min, max, Bool, true, false, cond, not, ◌&&◌, ◌||◌, List, [], ◌∷◌, leb, eqb, get_or}
use Rattle.laws.specs.Loop.{fold_from, any_from}
use Rattle.laws.specs.Sets.{added, set_of}
use Rattle.laws.specs.Store.{store_each, always}
use Rattle.laws.specs.Greatest.{greatest}
use Rattle.protocol.specs.declared.message.Message.{Message}
use Rattle.protocol.specs.declared.message.Queue.{Queue}
use Rattle.protocol.specs.declared.message.Kind.TheVariants.{Invalidate}
use Rattle.protocol.specs.declared.setup.Setup.{Setup}
use Rattle.protocol.specs.declared.tables.Objects.{Objects}
use Rattle.protocol.specs.declared.tables.Sessions.{Sessions}
use Rattle.protocol.specs.declared.tables.Holders.{Holders}
use Rattle.protocol.specs.declared.tables.Tables.{Tables}
use Rattle.protocol.specs.Setup.{volume_of}
use Rattle.protocol.specs.Messages.{message, pushed}
use Rattle.protocol.specs.Tables.{by_volume, by_object, epoch_at, guard_at, session_expiry_at, unreachable_at, version_at, standing_at, pending_at, end_at, lease_at, waiting_at, with_clock, with_sessions, with_objects, with_holders, with_queue}
use Rattle.protocol.specs.Updates.{set_unreachable, set_notes, set_batch, set_value, set_version, set_write, with_lease, set_waiting}
use Rattle.protocol.specs.Leases.{server_alive, guard_passed, end_over}

-- Step 4: "Waiting are the dashes whose object lease is alive and which either are not marked unreachable or have a live volume lease." 02, A6: "a reachable
-- dash with a live object lease and a dead volume lease is no longer waited for", so both leases are alive, and the mark plays no part
unfoldable pub waits : Setup → Tables → ℕ → ℕ → Bool
waits s t o d = server_alive t.clock (lease_at t d o) && server_alive t.clock (session_expiry_at t d (volume_of s o))

-- ".. a reachable dash with a live object lease and a dead volume lease": whose invalidation is put off
unfoldable pub delays : Setup → Tables → ℕ → ℕ → Bool
delays s t o d =
    server_alive t.clock (lease_at t d o)
    && (not (server_alive t.clock (session_expiry_at t d (volume_of s o))) && not (unreachable_at t d (volume_of s o)))

-- until when a client may show its copy, as far as the server knows
abbrev pub leased_until : Setup → Tables → ℕ → ℕ → ℕ
leased_until s t o d = min (session_expiry_at t d (volume_of s o)) (lease_at t d o)

-- 02, A3: "The latest end is the greatest of clock + m, guard, and, over the waiting dashes, the lesser of that dash's volume and object expiry."
unfoldable pub latest_end : Setup → Tables → ℕ → ℕ
latest_end s t o = greatest (waits s t o) (leased_until s t o) (max (t.clock + s.m) (guard_at t (volume_of s o))) s.clients

-- the write of x stands, with its latest end and its waiting clients
unfoldable pub opened : Setup → Tables → ℕ → ℕ → Objects
opened s t o x = set_write t.objects o true x (latest_end s t o)

unfoldable pub awaited : Setup → Tables → ℕ → Holders
awaited s t o = set_waiting t.holders o (set_of (waits s t o) s.clients)

-- "the object goes on its list of notes for that volume"; "a later note voids that batch"
abbrev pub put_off : Sessions → ℕ → ℕ → ℕ → Sessions
put_off x d v o = set_batch (set_notes x d v (added (get_or x.notes (by_volume d v) 0) o)) d v 0

-- for one client, and for all in their order: a note changes nothing that decides about the next
abbrev pub delay_if : Setup → Tables → ℕ → Sessions → ℕ → Sessions
delay_if s t o x d = cond (delays s (with_sessions t x) o d) (put_off x d (volume_of s o) o) x

unfoldable pub delayed : Setup → Tables → ℕ → Sessions
delayed s t o = fold_from (delay_if s t o) t.sessions 0 s.clients

abbrev pub begun : Setup → Tables → ℕ → ℕ → Tables
begun s t o x = with_holders (with_objects (with_sessions t (delayed s t o)) (opened s t o x)) (awaited s t o)

-- an INVALIDATE carries the epoch and the new version
abbrev pub invalidation : Setup → Tables → ℕ → ℕ → Message
invalidation s t o d = message d (Invalidate o (epoch_at t (volume_of s o)) (version_at t o + 1))

-- Step 4: "Send each INVALIDATE in dash order."
abbrev pub notify : Setup → Tables → ℕ → Queue → ℕ → Queue
notify s t o q d = cond (waiting_at t d o) (pushed q (invalidation s t o d)) q

unfoldable pub notified : Setup → Tables → ℕ → Queue
notified s t o = fold_from (notify s t o) t.queue 0 s.clients

-- whether the write of o waits for a client
unfoldable pub waited : Setup → Tables → ℕ → Bool
waited s t o = any_from (λ (d : ℕ). waiting_at t d o) 0 s.clients

-- Step 4: "Complete if none waits and the clock is at or past guard."
unfoldable pub ready : Setup → Tables → ℕ → Bool
ready s t o = standing_at t o && (not (waited s t o) && guard_passed t (volume_of s o))

-- Step 1: "no waiting dash and clock at or past guard, or whose latest end is below the clock"
unfoldable pub due : Setup → Tables → ℕ → Bool
due s t o = standing_at t o && (not (waited s t o) && guard_passed t (volume_of s o) || end_over t.clock (end_at t o))

-- a client marked unreachable in a volume. 02, A6: "Any mark drops its notes there and voids the batch."
abbrev pub marked : Sessions → ℕ → ℕ → Sessions
marked x d v = set_batch (set_notes (set_unreachable x d v true) d v 0) d v 0

-- "marks still waiting dashes unreachable"
abbrev pub mark_if_waiting : Setup → Tables → ℕ → Sessions → ℕ → Sessions
mark_if_waiting s t o x d = cond (waiting_at t d o) (marked x d (volume_of s o)) x

unfoldable pub deserted : Setup → Tables → ℕ → Sessions
deserted s t o = fold_from (mark_if_waiting s t o) t.sessions 0 s.clients

-- 02, A6: "A clock step to volume expiry + d or later .. marks a noted dash unreachable."
abbrev pub ages : Setup → ℕ → Sessions → ℕ → ℕ → Bool
ages s clock x d v = not (eqb (get_or x.notes (by_volume d v) 0) 0) && leb (get_or x.expiry (by_volume d v) 0 + s.delay) clock

abbrev pub age_at : Setup → ℕ → ℕ → Sessions → ℕ → Sessions
age_at s clock d x v = cond (ages s clock x d v) (marked x d v) x

-- in each volume of a client, and of each client
unfoldable pub aged_in : Setup → ℕ → Sessions → ℕ → Sessions
aged_in s clock x d = fold_from (age_at s clock d) x 0 s.volumes

unfoldable pub aged : Setup → ℕ → Sessions → Sessions
aged s clock x = fold_from (aged_in s clock) x 0 s.clients

-- "stores the value, adds 1 to the version, .. and ends the standing write"; OE stays
unfoldable pub posted : Tables → ℕ → Objects
posted t o = set_version (set_value (set_write t.objects o false 0 0) o (pending_at t o)) o (version_at t o + 1)

-- "clears every dash's server lease on that object"; nobody is waited for any more
unfoldable pub released : Setup → Tables → ℕ → Holders
released s t o =
    set_waiting (with_lease t.holders (store_each always (λ (d : ℕ). by_object d o) (λ (d : ℕ). 0) t.holders.lease s.clients)) o 0

-- "Completing stores the value, adds 1 to the version, marks still waiting dashes unreachable, clears every dash's server lease on that object and ends the standing write."
unfoldable pub completed : Setup → Tables → ℕ → Tables
completed s t o = with_sessions (with_holders (with_objects t (posted t o)) (released s t o)) (deserted s t o)

-- What a step leaves before it completes writes, and the objects that it then goes through in their order: those of `many` from `from` on whose
-- write passes `test` complete
pub record Staged : Type 0 where
  pub tables : Tables
  pub test : Tables → ℕ → Bool
  pub from : ℕ
  pub many : ℕ

-- a step that completes nothing
abbrev pub unstaged : Tables → Staged
unstaged t = record { tables = t; test = λ u o. false; from = 0; many = 0 }

-- tables, and how many writes completed on the way to them
pub record Counted : Type 0 where
  pub count : ℕ
  pub tables : Tables

abbrev pub complete_if : (Tables → ℕ → Bool) → Setup → Counted → ℕ → Counted
complete_if test s c o = cond (test c.tables o) (record { count = c.count + 1; tables = completed s c.tables o }) c

-- the tables after that, and how many writes completed
unfoldable pub settled : Setup → Staged → Counted
settled s g = fold_from (complete_if g.test s) (record { count = 0; tables = g.tables }) g.from g.many

-- which writes completed, in order: what the ledger of a run goes by
unfoldable pub settling : (Tables → ℕ → Bool) → Setup → Tables → ℕ → ℕ → List ℕ
settling test s t j zero = []
settling test s t j (suc n) =
    cond (test t j) (j ∷ settling test s (completed s t j) (j + 1) n) (settling test s t (j + 1) n)

-- Step 4
unfoldable pub written : Setup → Tables → ℕ → ℕ → Tables
written s t o x = with_queue (begun s t o x) (notified s (begun s t o x) o)

abbrev pub write_staged : Setup → Tables → ℕ → ℕ → Staged
write_staged s t o x = record { tables = written s t o x; test = ready s; from = o; many = 1 }

-- Step 1: "set the clock", and notes age
unfoldable pub clock_set : Setup → Tables → ℕ → Tables
clock_set s t clock = with_sessions (with_clock t clock) (aged s clock t.sessions)

-- "In object order, complete each standing write .."
abbrev pub clock_staged : Setup → Tables → ℕ → Staged
clock_staged s t clock = record { tables = clock_set s t clock; test = due s; from = 0; many = s.objects }
