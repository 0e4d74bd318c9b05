-- The lengths of all lists, and that each update of the tables keeps them. Each clause speaks of the part of the tables that it reads.
-- x is a part of the tables, or a new clock; l is a new field, h and k say that lengths are right.
use Rattle.std.specs.Prelude.{◌*◌, ◌≡◌, length}
use Rattle.protocol.specs.declared.message.Queue.{Queue}
use Rattle.protocol.specs.declared.setup.Setup.{Setup}
use Rattle.protocol.specs.declared.tables.Volumes.{Volumes}
use Rattle.protocol.specs.declared.tables.Sessions.{Sessions}
use Rattle.protocol.specs.declared.tables.Objects.{Objects}
use Rattle.protocol.specs.declared.tables.Holders.{Holders}
use Rattle.protocol.specs.declared.tables.Views.{Views}
use Rattle.protocol.specs.declared.tables.Tables.{Tables}
use Rattle.protocol.specs.World.{World}

pub record VolumesShape (x : Volumes) : Type 0 where
  pub epoch : length x.epoch ≡ 8
  pub expiry : length x.expiry ≡ 8
  pub guard : length x.guard ≡ 8

pub record SessionsShape (x : Sessions) : Type 0 where
  pub seen : length x.seen ≡ 16
  pub expiry : length x.expiry ≡ 128
  pub unreachable : length x.unreachable ≡ 128
  pub offer : length x.offer ≡ 128
  pub notes : length x.notes ≡ 128
  pub batch : length x.batch ≡ 128

pub record ObjectsShape (x : Objects) : Type 0 where
  pub value : length x.value ≡ 32
  pub version : length x.version ≡ 32
  pub expiry : length x.expiry ≡ 32
  pub standing : length x.standing ≡ 32
  pub pending : length x.pending ≡ 32
  pub end : length x.end ≡ 32

pub record HoldersShape (x : Holders) : Type 0 where
  pub lease : length x.lease ≡ 512
  pub waiting : length x.waiting ≡ 32

pub record ViewsShape (x : Views) : Type 0 where
  pub epoch : length x.epoch ≡ 128
  pub expiry : length x.expiry ≡ 128

pub record QueueShape (x : Queue) : Type 0 where
  pub items : length x.items ≡ 64

pub record Shape (t : Tables) : Type 0 where
  pub volumes : VolumesShape t.volumes
  pub sessions : SessionsShape t.sessions
  pub objects : ObjectsShape t.objects
  pub holders : HoldersShape t.holders
  pub views : ViewsShape t.views
  pub queue : QueueShape t.queue

pub record WorldShape (s : Setup) (w : World) : Type 0 where
  pub tables : Shape w.tables
  pub copies : length w.copies ≡ s.clients * s.objects
  pub requests : length w.requests ≡ s.clients
