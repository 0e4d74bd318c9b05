-- 01, "Tables": where each field stands, one part of the tables replaced, and fresh tables.
use Rattle.std.specs.Prelude.{ℕ, ◌+◌, ◌*◌, Bool, false, get_or, replicate}
use Rattle.laws.specs.Sets.{bit_at}
use Rattle.protocol.specs.declared.message.Queue.{Queue}
use Rattle.protocol.specs.declared.records.Copy.{Copy}
use Rattle.protocol.specs.declared.records.Request.{Request}
use Rattle.protocol.specs.declared.tables.Volumes.{Volumes}
use Rattle.protocol.specs.declared.tables.Sessions.{Sessions}
use Rattle.protocol.specs.declared.tables.Objects.{Objects}
use Rattle.protocol.specs.declared.tables.Holders.{Holders}
use Rattle.protocol.specs.declared.tables.Views.{Views}
use Rattle.protocol.specs.declared.tables.Tables.{Tables}
use Rattle.protocol.specs.Messages.{empty_queue}

-- where the fields per client and volume, and per client and object, stand
abbrev pub by_volume : ℕ → ℕ → ℕ
by_volume d v = d * 8 + v

abbrev pub by_object : ℕ → ℕ → ℕ
by_object d o = d * 32 + o

-- Server, per volume
abbrev pub epoch_at : Tables → ℕ → ℕ
epoch_at t v = get_or t.volumes.epoch v 0

abbrev pub volume_expiry_at : Tables → ℕ → ℕ
volume_expiry_at t v = get_or t.volumes.expiry v 0

abbrev pub guard_at : Tables → ℕ → ℕ
guard_at t v = get_or t.volumes.guard v 0

-- Server, per client, and per client and volume
abbrev pub seen_at : Tables → ℕ → ℕ
seen_at t d = get_or t.sessions.seen d 0

abbrev pub session_expiry_at : Tables → ℕ → ℕ → ℕ
session_expiry_at t d v = get_or t.sessions.expiry (by_volume d v) 0

abbrev pub unreachable_at : Tables → ℕ → ℕ → Bool
unreachable_at t d v = get_or t.sessions.unreachable (by_volume d v) false

abbrev pub offer_at : Tables → ℕ → ℕ → ℕ
offer_at t d v = get_or t.sessions.offer (by_volume d v) 0

-- 02, A6: "its list of notes for that volume", as a set
abbrev pub notes_at : Tables → ℕ → ℕ → ℕ
notes_at t d v = get_or t.sessions.notes (by_volume d v) 0

-- the number of "the batch last sent"; 0 is none
abbrev pub batch_at : Tables → ℕ → ℕ → ℕ
batch_at t d v = get_or t.sessions.batch (by_volume d v) 0

-- Server, per object
abbrev pub value_at : Tables → ℕ → ℕ
value_at t o = get_or t.objects.value o 0

abbrev pub version_at : Tables → ℕ → ℕ
version_at t o = get_or t.objects.version o 0

abbrev pub object_expiry_at : Tables → ℕ → ℕ
object_expiry_at t o = get_or t.objects.expiry o 0

abbrev pub standing_at : Tables → ℕ → Bool
standing_at t o = get_or t.objects.standing o false

abbrev pub pending_at : Tables → ℕ → ℕ
pending_at t o = get_or t.objects.pending o 0

abbrev pub end_at : Tables → ℕ → ℕ
end_at t o = get_or t.objects.end o 0

-- Server, per client and object
abbrev pub lease_at : Tables → ℕ → ℕ → ℕ
lease_at t d o = get_or t.holders.lease (by_object d o) 0

-- the clients that the standing write of o waits for, and whether d is one
abbrev pub awaited_at : Tables → ℕ → ℕ
awaited_at t o = get_or t.holders.waiting o 0

abbrev pub waiting_at : Tables → ℕ → ℕ → Bool
waiting_at t d o = bit_at (awaited_at t o) d

-- Client, per volume
abbrev pub view_epoch_at : Tables → ℕ → ℕ → ℕ
view_epoch_at t d v = get_or t.views.epoch (by_volume d v) 0

abbrev pub view_expiry_at : Tables → ℕ → ℕ → ℕ
view_expiry_at t d v = get_or t.views.expiry (by_volume d v) 0

-- one part replaced
abbrev pub with_clock : Tables → ℕ → Tables
with_clock t x = record { clock = x; volumes = t.volumes; sessions = t.sessions; objects = t.objects; holders = t.holders; views = t.views; queue = t.queue }

abbrev pub with_volumes : Tables → Volumes → Tables
with_volumes t x = record { clock = t.clock; volumes = x; sessions = t.sessions; objects = t.objects; holders = t.holders; views = t.views; queue = t.queue }

abbrev pub with_sessions : Tables → Sessions → Tables
with_sessions t x = record { clock = t.clock; volumes = t.volumes; sessions = x; objects = t.objects; holders = t.holders; views = t.views; queue = t.queue }

abbrev pub with_objects : Tables → Objects → Tables
with_objects t x = record { clock = t.clock; volumes = t.volumes; sessions = t.sessions; objects = x; holders = t.holders; views = t.views; queue = t.queue }

abbrev pub with_holders : Tables → Holders → Tables
with_holders t x = record { clock = t.clock; volumes = t.volumes; sessions = t.sessions; objects = t.objects; holders = x; views = t.views; queue = t.queue }

abbrev pub with_views : Tables → Views → Tables
with_views t x = record { clock = t.clock; volumes = t.volumes; sessions = t.sessions; objects = t.objects; holders = t.holders; views = x; queue = t.queue }

abbrev pub with_queue : Tables → Queue → Tables
with_queue t x = record { clock = t.clock; volumes = t.volumes; sessions = t.sessions; objects = t.objects; holders = t.holders; views = t.views; queue = x }

-- "All else is fresh 0, none or no; clock 0." A slot past the counts is fresh too
abbrev pub no_copy : Copy
no_copy = record { version = 0; value = 0; expiry = 0 }

-- what a place outside the lent list reads as
abbrev pub no_request : Request
no_request = record { next = 0; standing = false; number = 0; object = 0 }

abbrev pub fresh_request : Request
fresh_request = record { next = 1; standing = false; number = 0; object = 0 }

abbrev pub fresh_volumes : Volumes
fresh_volumes = record { epoch = replicate 8 1; expiry = replicate 8 0; guard = replicate 8 0 }

abbrev pub fresh_sessions : Sessions
fresh_sessions = record {
  seen = replicate 16 0;
  expiry = replicate 128 0;
  unreachable = replicate 128 false;
  offer = replicate 128 0;
  notes = replicate 128 0;
  batch = replicate 128 0;
}

abbrev pub fresh_objects : Objects
fresh_objects = record {
  value = replicate 32 0;
  version = replicate 32 1;
  expiry = replicate 32 0;
  standing = replicate 32 false;
  pending = replicate 32 0;
  end = replicate 32 0;
}

abbrev pub fresh_holders : Holders
fresh_holders = record { lease = replicate 512 0; waiting = replicate 32 0 }

abbrev pub fresh_views : Views
fresh_views = record { epoch = replicate 128 0; expiry = replicate 128 0 }

unfoldable pub fresh_tables : Tables
fresh_tables = record {
  clock = 0;
  volumes = fresh_volumes;
  sessions = fresh_sessions;
  objects = fresh_objects;
  holders = fresh_holders;
  views = fresh_views;
  queue = empty_queue;
}
