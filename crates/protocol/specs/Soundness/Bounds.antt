-- The bounds of question 1 as an invariant, in every slot of the tables, also those past the counts, and that each update of the tables keeps it. Each
-- clause speaks of the part that it reads.
-- x is a part of the tables, or a new clock; l is a new field, h and k say that bounds hold.
use Rattle.std.specs.Prelude.{ℕ, ◌<◌, ◌≤◌, true, false, List, ◌≡◌, get_or}
use Rattle.laws.specs.Lists.{All}
use Rattle.protocol.specs.declared.message.Message.{Message}
use Rattle.protocol.specs.declared.message.Queue.{Queue}
use Rattle.protocol.specs.declared.records.Copy.{Copy}
use Rattle.protocol.specs.declared.records.Request.{Request}
use Rattle.protocol.specs.declared.setup.Setup.{Setup}
use Rattle.protocol.specs.declared.tables.Volumes.{Volumes}
use Rattle.protocol.specs.declared.tables.Sessions.{Sessions}
use Rattle.protocol.specs.declared.tables.Objects.{Objects}
use Rattle.protocol.specs.declared.tables.Holders.{Holders}
use Rattle.protocol.specs.declared.tables.Views.{Views}
use Rattle.protocol.specs.declared.tables.Tables.{Tables}
use Rattle.protocol.specs.Tables.{by_volume}
use Rattle.protocol.specs.Sound.{clock_limit, set_sound, message_sound}
use Rattle.protocol.specs.World.{World}

-- "expiries, guards and latest ends at most 2,148,483,647"
abbrev pub Timed : ℕ → Type 0
Timed x = x ≤ 2148483647

-- "server epochs and versions and next numbers at least 1"
abbrev pub Started : ℕ → Type 0
Started n = 1 ≤ n

-- "named items existing", and expiries in messages too
abbrev pub Named : Setup → Message → Type 0
Named s m = message_sound s m ≡ true

pub record VolumesBounded (x : Volumes) : Type 0 where
  pub epoch : All Started x.epoch
  pub expiry : All Timed x.expiry
  pub guard : All Timed x.guard

-- "A set bit that is no object of its volume makes tables unsound": no set of a list per client and volume has one
abbrev pub SetsFit : Setup → List ℕ → Type 0
SetsFit s l = (d v : ℕ) → v < 8 → set_sound s v (get_or l (by_volume d v) 0) ≡ true

pub record SessionsBounded (s : Setup) (x : Sessions) : Type 0 where
  pub expiry : All Timed x.expiry
  pub notes : SetsFit s x.notes

pub record ObjectsBounded (x : Objects) : Type 0 where
  pub version : All Started x.version
  pub expiry : All Timed x.expiry
  pub end : All Timed x.end
  -- "a version with a standing write below 4,294,967,295"
  pub standing : (o : ℕ) → get_or x.standing o false ≡ true → get_or x.version o 0 < 4294967295

pub record HoldersBounded (x : Holders) : Type 0 where
  pub lease : All Timed x.lease

pub record ViewsBounded (x : Views) : Type 0 where
  pub expiry : All Timed x.expiry

pub record QueueBounded (s : Setup) (q : Queue) : Type 0 where
  pub len : q.len ≤ 64
  pub items : All (Named s) q.items

pub record Bounded (s : Setup) (t : Tables) : Type 0 where
  pub clock : t.clock ≤ clock_limit
  pub volumes : VolumesBounded t.volumes
  pub sessions : SessionsBounded s t.sessions
  pub objects : ObjectsBounded t.objects
  pub holders : HoldersBounded t.holders
  pub views : ViewsBounded t.views
  pub queue : QueueBounded s t.queue

abbrev pub CopyBounded : Copy → Type 0
CopyBounded c = Timed c.expiry

pub record RequestBounded (s : Setup) (r : Request) : Type 0 where
  pub next : Started r.next
  pub object : r.standing ≡ true → r.object < s.objects

pub record WorldBounded (s : Setup) (w : World) : Type 0 where
  pub tables : Bounded s w.tables
  pub copies : All CopyBounded w.copies
  pub requests : All (RequestBounded s) w.requests
