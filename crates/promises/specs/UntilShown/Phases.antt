-- How far a client is that waits for its read, phase by phase: what is under way, and what it needs to go on. Each phase leads to the next by one step of
-- the policy (Moves).
-- Letters: s setup, w world, d client, o object, n the number of its request; `known` says that it is connected.
use Rattle.std.specs.Prelude.{ℕ, ◌+◌, ◌<◌, ◌≤◌, Bool, true, ◌≡◌, Option}
use Rattle.protocol.specs.declared.message.Message.{Message}
use Rattle.protocol.specs.declared.message.Queue.{Queue}
use Rattle.protocol.specs.declared.message.Kind.TheVariants.{Renew, Grant, Offer, Dropped}
use Rattle.protocol.specs.declared.records.Request.{Request}
use Rattle.protocol.specs.declared.setup.Setup.{Setup}
use Rattle.protocol.specs.Setup.{volume_of}
use Rattle.protocol.specs.Messages.{message_at}
use Rattle.protocol.specs.Tables.{epoch_at, seen_at, offer_at, notes_at, view_epoch_at}
use Rattle.protocol.specs.Client.{showable}
use Rattle.protocol.specs.World.{World}
use Rattle.protocol.specs.Safety.View.{copy_at, request_at}
use Rattle.protocol.specs.Safety.Invariant.{from}
use Rattle.promises.specs.UntilShown.Policy.{NoneStands, connected}

-- ---- one message is under way
pub record Only (q : Queue) (m : Message) : Type 0 where
  pub one : q.len ≡ 1
  pub first : message_at q 0 ≡ m

-- request n of the client for object o stands
abbrev pub standing : ℕ → ℕ → Request
standing n o = record { next = n + 1; standing = true; number = n; object = o }

-- ---- the phases

-- nothing is under way: before the client asks, and again once the server has let it reconnect
pub record Idle (s : Setup) (w : World) (d o : ℕ) (known : Bool) : Type 0 where
  pub empty : w.tables.queue.len ≡ 0
  pub vacant : NoneStands s w.tables o
  pub unnoted : notes_at w.tables d (volume_of s o) ≡ 0
  -- every number seen is below the next one: the server takes the RENEW for a new one
  pub unseen : seen_at w.tables d < (request_at w.requests d).next
  pub connects : connected w.tables d (volume_of s o) ≡ known

-- its RENEW is
pub record Asked (s : Setup) (w : World) (d o n : ℕ) (known : Bool) : Type 0 where
  pub renew : Only w.tables.queue (from d (Renew o n (view_epoch_at w.tables d (volume_of s o)) (copy_at s w.copies d o).version))
  pub vacant : NoneStands s w.tables o
  pub unnoted : notes_at w.tables d (volume_of s o) ≡ 0
  pub unseen : seen_at w.tables d < n
  pub request : request_at w.requests d ≡ standing n o
  pub connects : connected w.tables d (volume_of s o) ≡ known

-- the server's OFFER is
pub record Offered (s : Setup) (w : World) (d o n : ℕ) : Type 0 where
  pub offer : Only w.tables.queue (from d (Offer (volume_of s o) n (epoch_at w.tables (volume_of s o))))
  pub vacant : NoneStands s w.tables o
  pub unnoted : notes_at w.tables d (volume_of s o) ≡ 0
  pub positive : 1 ≤ n
  pub seen : seen_at w.tables d ≡ n
  pub awaits : offer_at w.tables d (volume_of s o) ≡ n
  pub request : request_at w.requests d ≡ standing n o

-- the client's DROPPED is
pub record Dropping (s : Setup) (w : World) (d o n : ℕ) : Type 0 where
  pub dropped : Only w.tables.queue (from d (Dropped (volume_of s o) n (epoch_at w.tables (volume_of s o))))
  pub vacant : NoneStands s w.tables o
  pub unnoted : notes_at w.tables d (volume_of s o) ≡ 0
  pub positive : 1 ≤ n
  pub seen : seen_at w.tables d ≡ n
  pub awaits : offer_at w.tables d (volume_of s o) ≡ n
  pub knows : view_epoch_at w.tables d (volume_of s o) ≡ epoch_at w.tables (volume_of s o)
  pub next : (request_at w.requests d).next ≡ n + 1

-- the server has taken the DROPPED: the client may ask again, and is connected
pub record Reconnected (s : Setup) (w : World) (d o n : ℕ) : Type 0 where
  pub idle : Idle s w d o true
  pub next : (request_at w.requests d).next ≡ n + 1

-- the server's GRANT is under way, of a version at least 1
pub record Granted (s : Setup) (w : World) (d o n : ℕ) : Type 0 where
  pub epoch : ℕ
  pub version : ℕ
  pub payload : Option ℕ
  pub grant : Only w.tables.queue (from d (Grant o n (w.tables.clock + s.tv) epoch version (w.tables.clock + s.t) payload))
  pub positive : 1 ≤ version
  pub request : request_at w.requests d ≡ standing n o

-- all is delivered, and the copy may be shown
pub record Showing (s : Setup) (w : World) (d o : ℕ) : Type 0 where
  pub empty : w.tables.queue.len ≡ 0
  pub shows : showable s w.tables (copy_at s w.copies d o) d o ≡ true
