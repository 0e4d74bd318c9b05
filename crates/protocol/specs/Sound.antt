-- 01, "Questions at the gate", question 1: are setup and tables sound? It asks about what exists: clients, volumes and objects below the counts, messages
-- below the list's length. Slots and places past those are free.
use Rattle.std.specs.Prelude.{ℕ, ◌*◌, Bool, not, ◌&&◌, ◌||◌, List, ltb, leb, eqb, length, get_or}
use Rattle.laws.specs.Loop.{all_from}
use Rattle.laws.specs.Sets.{within}
use Rattle.protocol.specs.declared.message.Message.{Message}
use Rattle.protocol.specs.declared.message.Queue.{Queue}
use Rattle.protocol.specs.declared.message.Kind.{Kind}
use Rattle.protocol.specs.declared.message.Kind.TheVariants.{Renew, Grant, Invalidate, Ack, Offer, Dropped, Batch, Cleared}
use Rattle.protocol.specs.declared.records.Copy.{Copy}
use Rattle.protocol.specs.declared.records.Request.{Request}
use Rattle.protocol.specs.declared.setup.Setup.{Setup}
use Rattle.protocol.specs.declared.tables.Tables.{Tables}
use Rattle.protocol.specs.Setup.{in_range, objects_in}
use Rattle.protocol.specs.Messages.{message_at}
use Rattle.protocol.specs.Tables.{epoch_at, volume_expiry_at, guard_at, session_expiry_at, notes_at, version_at, object_expiry_at, standing_at, end_at, lease_at, view_expiry_at, no_copy, no_request}

-- "clock at most 2,147,483,647"
abbrev pub clock_limit : ℕ
clock_limit = 2147483647

-- "expiries, guards and latest ends at most 2,148,483,647": a clock and the longest lease
abbrev pub time_fits : ℕ → Bool
time_fits x = leb x 2148483647

-- "below 4,294,967,295": a number that can still grow
abbrev pub can_grow : ℕ → Bool
can_grow x = ltb x 4294967295

-- "server epochs .. at least 1", VE and guard
abbrev pub volume_sound : Tables → ℕ → Bool
volume_sound t v = leb 1 (epoch_at t v) && time_fits (volume_expiry_at t v) && time_fits (guard_at t v)

-- versions at least 1, OE, the latest end, and "a version with a standing write below 4,294,967,295"
abbrev pub object_sound : Tables → ℕ → Bool
object_sound t o =
    leb 1 (version_at t o) && time_fits (object_expiry_at t o) && (not (standing_at t o) || (time_fits (end_at t o) && can_grow (version_at t o)))

-- 02, A6: "A set bit that is no object of its volume makes tables unsound"
abbrev pub set_sound : Setup → ℕ → ℕ → Bool
set_sound s v m = within m (objects_in s v)

-- the volume lease of a client, at the server and at the client, and its notes
abbrev pub session_sound : Setup → Tables → ℕ → ℕ → Bool
session_sound s t d v = time_fits (session_expiry_at t d v) && time_fits (view_expiry_at t d v) && set_sound s v (notes_at t d v)

abbrev pub sessions_sound : Setup → Tables → ℕ → Bool
sessions_sound s t d = all_from (session_sound s t d) 0 s.volumes

abbrev pub holder_sound : Tables → ℕ → ℕ → Bool
holder_sound t d o = time_fits (lease_at t d o)

abbrev pub holders_sound : Setup → Tables → ℕ → Bool
holders_sound s t d = all_from (holder_sound t d) 0 s.objects

-- "named items existing", and "expiries (in messages too)"; 02, A6: a set's bits "in messages too"
abbrev pub kind_sound : Setup → Kind → Bool
kind_sound s (Renew o n e w) = ltb o s.objects
kind_sound s (Grant o n x e w y p) = ltb o s.objects && time_fits x && time_fits y
kind_sound s (Invalidate o e w) = ltb o s.objects
kind_sound s (Ack o e w) = ltb o s.objects
kind_sound s (Offer v n e) = ltb v s.volumes
kind_sound s (Dropped v n e) = ltb v s.volumes
kind_sound s (Batch v n e m) = ltb v s.volumes && set_sound s v m
kind_sound s (Cleared v n e m) = ltb v s.volumes && set_sound s v m

abbrev pub message_sound : Setup → Message → Bool
message_sound s m = ltb m.client s.clients && kind_sound s m.kind

-- "at most 64 messages"
unfoldable pub queue_sound : Setup → Queue → Bool
queue_sound s q = leb q.len 64 && all_from (λ (i : ℕ). message_sound s (message_at q i)) 0 q.len

unfoldable pub tables_sound : Setup → Tables → Bool
tables_sound s t =
    leb t.clock clock_limit
    && all_from (volume_sound t) 0 s.volumes
    && all_from (object_sound t) 0 s.objects
    && all_from (sessions_sound s t) 0 s.clients
    && all_from (holders_sound s t) 0 s.clients
    && queue_sound s t.queue

-- the lent copies: "dash by dash in object order; another length is unsound"
unfoldable pub copies_sound : Setup → List Copy → Bool
copies_sound s l = eqb (length l) (s.clients * s.objects) && all_from (λ (k : ℕ). time_fits (get_or l k no_copy).expiry) 0 (length l)

-- a request record: "next numbers at least 1", and the object of a standing request exists
abbrev pub request_sound : Setup → Request → Bool
request_sound s r = leb 1 r.next && (not r.standing || ltb r.object s.objects)

-- the lent requests: one a client
unfoldable pub requests_sound : Setup → List Request → Bool
requests_sound s l = eqb (length l) s.clients && all_from (λ (d : ℕ). request_sound s (get_or l d no_request)) 0 (length l)

abbrev pub records_sound : Setup → List Copy → List Request → Bool
records_sound s copies requests = copies_sound s copies && requests_sound s requests

-- question 1; whoever holds the records says whether they are sound
unfoldable pub sound : Setup → Tables → Bool → Bool
sound s t records = in_range s && records && tables_sound s t
