-- What holds after every step of every run: of the tables, of each message under way, and of each two. Each clause is stated over what it reads, so what
-- a step leaves alone needs no proof.
-- Letters in this folder: s is a setup, w a world, t tables, q a message list, m a message or a set, g another message or its kind; d and k are clients, v and
-- u volumes, o, i and j objects. Of a message n is the number, e the epoch (n' and f another's), x the volume expiry, ver the version, y the object expiry, p
-- the payload; z says that it is sent, and c is its clause. In proofs a, b, e, h, l, p, q and r are facts, ne is one that says that two are not the same, and
-- hd, hv and ho are that an item exists.
use Rattle.std.specs.Prelude.{ℕ, ◌+◌, ◌<◌, ◌≤◌, min, Bool, true, false, List, ◌⊎◌, ◌≡◌, get_or, Option, None, Some}
use Rattle.laws.specs.Sets.{bit_at}
use Rattle.protocol.specs.declared.message.Message.{Message}
use Rattle.protocol.specs.declared.message.Queue.{Queue}
use Rattle.protocol.specs.declared.message.Kind.{Kind}
use Rattle.protocol.specs.declared.message.Kind.TheVariants.{Renew, Grant, Invalidate, Ack, Offer, Dropped, Batch, Cleared}
use Rattle.protocol.specs.declared.records.Copy.{Copy}
use Rattle.protocol.specs.declared.records.Request.{Request}
use Rattle.protocol.specs.declared.setup.Setup.{Setup}
use Rattle.protocol.specs.declared.tables.Tables.{Tables}
use Rattle.protocol.specs.Setup.{volume_of}
use Rattle.protocol.specs.Messages.{message_at}
use Rattle.protocol.specs.Tables.{by_volume, by_object}
use Rattle.protocol.specs.Leases.{server_alive, client_clock}
use Rattle.protocol.specs.World.{World}
use Rattle.protocol.specs.Safety.View.{Remains, Stands, Unheld, View, ViewOk, copy_at, excused, left, request_at, view_at, view_granted}

-- ---- the tables

-- what was granted bounds what is alive
pub record Bounds (s : Setup) (clock : ℕ) (volume guard session object lease : List ℕ) : Type 0 where
  pub guards : (v : ℕ) → v < s.volumes → get_or guard v 0 ≤ get_or volume v 0
  pub volumes : (v : ℕ) → v < s.volumes → get_or volume v 0 ≤ clock + s.tv
  pub sessions : (d v : ℕ) → d < s.clients → v < s.volumes → get_or session (by_volume d v) 0 ≤ get_or volume v 0
  pub objects : (o : ℕ) → o < s.objects → get_or object o 0 ≤ clock + s.t
  pub leases : (d o : ℕ) → d < s.clients → o < s.objects → get_or lease (by_object d o) 0 ≤ get_or object o 0

-- no client knows an epoch that has not been
abbrev pub Epochs : Setup → List ℕ → List ℕ → Type 0
Epochs s epoch known = (d v : ℕ) → d < s.clients → v < s.volumes → get_or known (by_volume d v) 0 ≤ get_or epoch v 0

-- the standing request is the last one, and the server has seen none to come
pub record Numbers (s : Setup) (seen : List ℕ) (requests : List Request) : Type 0 where
  pub last : (d : ℕ) → d < s.clients → (request_at requests d).standing ≡ true → (request_at requests d).number + 1 ≡ (request_at requests d).next
  pub past : (d : ℕ) → d < s.clients → get_or seen d 0 < (request_at requests d).next

-- no copy is of a version to come, and one of the current version has the current value
pub record Versions (s : Setup) (value version : List ℕ) (copies : List Copy) : Type 0 where
  pub positive : (o : ℕ) → o < s.objects → 1 ≤ get_or version o 0
  pub reached : (d o : ℕ) → d < s.clients → o < s.objects → (copy_at s copies d o).version ≤ get_or version o 0
  pub values : (d o : ℕ) → d < s.clients → o < s.objects → (copy_at s copies d o).version ≡ get_or version o 0 → (copy_at s copies d o).value ≡ get_or value o 0

-- an offer stands for marked clients only
abbrev pub Offers : Setup → List Bool → List ℕ → Type 0
Offers s un offer =
    (d v : ℕ) → d < s.clients → v < s.volumes → (get_or offer (by_volume d v) 0 ≡ 0 → ⊥) → get_or un (by_volume d v) false ≡ true

-- a batch stands for clients with notes only, and for none that is marked
abbrev pub Batches : Setup → List Bool → List ℕ → List ℕ → Type 0
Batches s un notes batch =
    (d v : ℕ) → d < s.clients → v < s.volumes → (get_or batch (by_volume d v) 0 ≡ 0 → ⊥) → (get_or notes (by_volume d v) 0 ≡ 0 → ⊥) × (get_or un (by_volume d v) false ≡ false)

-- whom a write does not wait for cannot show the copy, or is not counted on
abbrev pub Unwaited : ℕ → ℕ → ℕ → Bool → Type 0
Unwaited clock lease session excuse = (server_alive clock lease ≡ false) ⊎ ((server_alive clock session ≡ false) × (excuse ≡ true))

-- a standing write outlasts the guard and the leases of whom it waits for
pub record Writes (s : Setup) (clock : ℕ) (guard session : List ℕ) (excuse : ℕ → ℕ → ℕ → Bool) (standing : List Bool) (end lease waiting : List ℕ) : Type 0 where
  pub guards : (o : ℕ) → o < s.objects → get_or standing o false ≡ true → get_or guard (volume_of s o) 0 ≤ get_or end o 0
  pub waits : (d o : ℕ) → d < s.clients → o < s.objects → get_or standing o false ≡ true → bit_at (get_or waiting o 0) d ≡ true
      → min (get_or lease (by_object d o) 0) (get_or session (by_volume d (volume_of s o)) 0) ≤ get_or end o 0
  pub others : (d o : ℕ) → d < s.clients → o < s.objects → get_or standing o false ≡ true → bit_at (get_or waiting o 0) d ≡ false
      → Unwaited clock (get_or lease (by_object d o) 0) (get_or session (by_volume d (volume_of s o)) 0) (excuse d (volume_of s o) o)

-- ---- the messages, kind by kind

-- an epoch that has been and a number that was taken; if the epoch is the server's, the server has seen the number
pub record Header (epoch seen : List ℕ) (requests : List Request) (d v n e : ℕ) : Type 0 where
  pub reached : e ≤ get_or epoch v 0
  pub taken : n < (request_at requests d).next
  pub noticed : e ≡ get_or epoch v 0 → n ≤ get_or seen d 0

pub record RenewOk (s : Setup) (epoch known : List ℕ) (copies : List Copy) (requests : List Request) (d o n e ver : ℕ) : Type 0 where
  pub exists : o < s.objects
  pub reached : e ≤ get_or epoch (volume_of s o) 0
  pub taken : n < (request_at requests d).next
  -- of the standing request, it says what the client knows and holds
  pub object : Stands requests d n → (request_at requests d).object ≡ o
  pub knows : Stands requests d n → e ≡ get_or known (by_volume d (volume_of s o)) 0
  pub held : Stands requests d n → ver ≡ (copy_at s copies d o).version

-- what a GRANT says of the value
abbrev pub PayloadOk : List ℕ → List ℕ → ℕ → ℕ → Option ℕ → Type 0
PayloadOk value version o ver None = Unit {0}
PayloadOk value version o ver (Some x) = ver ≡ get_or version o 0 → x ≡ get_or value o 0

-- without a value it names the version of the copy that is held
abbrev pub NamesHeld : ℕ → ℕ → Option ℕ → Type 0
NamesHeld held ver None = (ver ≡ held) × (1 ≤ ver)
NamesHeld held ver (Some x) = Unit {0}

pub record GrantOk (s : Setup) (clocks : ℕ → ℕ) (epoch guard seen session : List ℕ) (excuse : ℕ → ℕ → ℕ → Bool) (offer batch value version lease : List ℕ) (copies : List Copy) (requests : List Request) (d o n x e ver y : ℕ) (p : Option ℕ) : Type 0 where
  pub exists : o < s.objects
  pub header : Header epoch seen requests d (volume_of s o) n e
  pub reached : ver ≤ get_or version o 0
  pub payload : PayloadOk value version o ver p
  -- of the standing request, it may be taken: what the client knows then is covered
  pub object : Stands requests d n → (request_at requests d).object ≡ o
  -- .. and of the server's epoch, neither an offer nor a batch stands
  pub unoffered : Stands requests d n → e ≡ get_or epoch (volume_of s o) 0 → (get_or offer (by_volume d (volume_of s o)) 0 ≡ 0) × (get_or batch (by_volume d (volume_of s o)) 0 ≡ 0)
  pub held : Stands requests d n → NamesHeld (copy_at s copies d o).version ver p
  pub covered : Stands requests d n → ViewOk s clocks epoch guard session excuse version lease d (volume_of s o) (view_granted s copies d o x e ver y)

-- a version that has been, or the one that a standing write makes
abbrev pub Recent : List ℕ → List Bool → ℕ → ℕ → Type 0
Recent version standing o ver = (ver ≤ get_or version o 0) ⊎ ((get_or standing o false ≡ true) × (ver ≤ get_or version o 0 + 1))

-- an INVALIDATE or an ACK
pub record InvalidateOk (s : Setup) (epoch version : List ℕ) (standing : List Bool) (o e ver : ℕ) : Type 0 where
  pub exists : o < s.objects
  pub reached : e ≤ get_or epoch (volume_of s o) 0
  pub recent : e ≡ get_or epoch (volume_of s o) 0 → Recent version standing o ver

-- an ACK that would be taken
pub record Acknowledges (s : Setup) (epoch version : List ℕ) (standing : List Bool) (o e ver : ℕ) : Type 0 where
  pub stands : get_or standing o false ≡ true
  pub current : e ≡ get_or epoch (volume_of s o) 0
  pub next : ver ≡ get_or version o 0 + 1

-- who acknowledges the standing write holds no copy
pub record AckOk (s : Setup) (epoch version : List ℕ) (standing : List Bool) (copies : List Copy) (d o e ver : ℕ) : Type 0 where
  pub invalidate : InvalidateOk s epoch version standing o e ver
  pub erased : Acknowledges s epoch version standing o e ver → (copy_at s copies d o).version ≡ 0

-- an OFFER or a BATCH
pub record OfferOk (s : Setup) (epoch seen : List ℕ) (requests : List Request) (d v n e : ℕ) : Type 0 where
  pub exists : v < s.volumes
  pub header : Header epoch seen requests d v n e

-- a DROPPED or a CLEARED that would be taken, of the offer or the batch that stands
pub record Answers (epoch offer : List ℕ) (d v n e : ℕ) : Type 0 where
  pub current : e ≡ get_or epoch v 0
  pub nonzero : n ≡ 0 → ⊥
  pub same : get_or offer (by_volume d v) 0 ≡ n

pub record DroppedOk (s : Setup) (clocks : ℕ → ℕ) (epoch seen offer version : List ℕ) (standing : List Bool) (lease known expiry : List ℕ) (copies : List Copy) (requests : List Request) (d v n e : ℕ) : Type 0 where
  pub exists : v < s.volumes
  pub header : Header epoch seen requests d v n e
  -- taken, it leaves no lease on what is being written ..
  pub writes : Answers epoch offer d v n e → (o : ℕ) → o < s.objects → volume_of s o ≡ v → get_or standing o false ≡ true → left (get_or lease (by_object d o) 0) ≡ 0
  -- .. and all that a client of the server's epoch needs
  pub remains : Answers epoch offer d v n e → get_or known (by_volume d v) 0 ≡ get_or epoch v 0 → Remains s (clocks d) d v version lease (view_at s known expiry copies d v)

-- a CLEARED that would be taken: of its set, a client of the server's epoch holds nothing
pub record ClearedOk (s : Setup) (clocks : ℕ → ℕ) (epoch seen batch known expiry : List ℕ) (copies : List Copy) (requests : List Request) (d v n e m : ℕ) : Type 0 where
  pub exists : v < s.volumes
  pub header : Header epoch seen requests d v n e
  pub unheld : Answers epoch batch d v n e → get_or known (by_volume d v) 0 ≡ get_or epoch v 0 → Unheld s (clocks d) v m (view_at s known expiry copies d v)

-- ---- the messages, all kinds

-- each client's clock, and whom the server does not count on
abbrev pub clocks_of : Tables → ℕ → ℕ
clocks_of t = client_clock t.clock

abbrev pub excuses_of : Tables → ℕ → ℕ → ℕ → Bool
excuses_of t = excused t.sessions.unreachable t.sessions.notes

abbrev pub KindOk : Setup → World → ℕ → Kind → Type 0
KindOk s w d (Renew o n e ver) = RenewOk s w.tables.volumes.epoch w.tables.views.epoch w.copies w.requests d o n e ver
KindOk s w d (Grant o n x e ver y p) = GrantOk s (clocks_of w.tables) w.tables.volumes.epoch w.tables.volumes.guard w.tables.sessions.seen w.tables.sessions.expiry (excuses_of w.tables) w.tables.sessions.offer w.tables.sessions.batch w.tables.objects.value w.tables.objects.version w.tables.holders.lease w.copies w.requests d o n x e ver y p
KindOk s w d (Invalidate o e ver) = InvalidateOk s w.tables.volumes.epoch w.tables.objects.version w.tables.objects.standing o e ver
KindOk s w d (Ack o e ver) = AckOk s w.tables.volumes.epoch w.tables.objects.version w.tables.objects.standing w.copies d o e ver
KindOk s w d (Offer v n e) = OfferOk s w.tables.volumes.epoch w.tables.sessions.seen w.requests d v n e
KindOk s w d (Dropped v n e) = DroppedOk s (clocks_of w.tables) w.tables.volumes.epoch w.tables.sessions.seen w.tables.sessions.offer w.tables.objects.version w.tables.objects.standing w.tables.holders.lease w.tables.views.epoch w.tables.views.expiry w.copies w.requests d v n e
KindOk s w d (Batch v n e m) = OfferOk s w.tables.volumes.epoch w.tables.sessions.seen w.requests d v n e
KindOk s w d (Cleared v n e m) = ClearedOk s (clocks_of w.tables) w.tables.volumes.epoch w.tables.sessions.seen w.tables.sessions.batch w.tables.views.epoch w.tables.views.expiry w.copies w.requests d v n e m

pub record MessageOk (s : Setup) (w : World) (m : Message) : Type 0 where
  pub client : m.client < s.clients
  pub kind : KindOk s w m.client m.kind

-- ---- each two messages

-- an ACK of object o that would be taken
abbrev pub Acking : Setup → List ℕ → List ℕ → List Bool → ℕ → Kind → Type 0
Acking s epoch version standing o (Renew i n e ver) = ⊥
Acking s epoch version standing o (Grant i n x e ver y p) = ⊥
Acking s epoch version standing o (Invalidate i e ver) = ⊥
Acking s epoch version standing o (Ack i e ver) = (i ≡ o) × Acknowledges s epoch version standing i e ver
Acking s epoch version standing o (Offer v n e) = ⊥
Acking s epoch version standing o (Dropped v n e) = ⊥
Acking s epoch version standing o (Batch v n e m) = ⊥
Acking s epoch version standing o (Cleared v n e m) = ⊥

-- a GRANT of object o to client d that could still be taken
abbrev pub Bringing : List Request → ℕ → ℕ → Kind → Type 0
Bringing requests d o (Renew i n e ver) = ⊥
Bringing requests d o (Grant i n x e ver y p) = (i ≡ o) × Stands requests d n
Bringing requests d o (Invalidate i e ver) = ⊥
Bringing requests d o (Ack i e ver) = ⊥
Bringing requests d o (Offer v n e) = ⊥
Bringing requests d o (Dropped v n e) = ⊥
Bringing requests d o (Batch v n e m) = ⊥
Bringing requests d o (Cleared v n e m) = ⊥

-- one line for each reason why two messages cannot both be under way
pub record PairOk (s : Setup) (epoch version : List ℕ) (standing : List Bool) (requests : List Request) (m g : Message) : Type 0 where
  -- who acknowledges the standing write cannot be brought a copy
  pub acked : (o : ℕ) → m.client ≡ g.client → Acking s epoch version standing o m.kind → Bringing requests g.client o g.kind → ⊥

-- ---- the same over whole tables, or a world

abbrev pub view_in : Setup → World → ℕ → ℕ → View
view_in s w d v = view_at s w.tables.views.epoch w.tables.views.expiry w.copies d v

abbrev pub CoveredIn : Setup → Tables → ℕ → ℕ → View → Type 0
CoveredIn s t d v view = ViewOk s (clocks_of t) t.volumes.epoch t.volumes.guard t.sessions.expiry (excuses_of t) t.objects.version t.holders.lease d v view

abbrev pub RemainsIn : Setup → Tables → ℕ → ℕ → View → Type 0
RemainsIn s t d v view = Remains s (clocks_of t d) d v t.objects.version t.holders.lease view

abbrev pub HeaderIn : Tables → List Request → ℕ → ℕ → ℕ → ℕ → Type 0
HeaderIn t requests d v n e = Header t.volumes.epoch t.sessions.seen requests d v n e

abbrev pub AnswersIn : Tables → ℕ → ℕ → ℕ → ℕ → Type 0
AnswersIn t d v n e = Answers t.volumes.epoch t.sessions.offer d v n e

abbrev pub ClearsIn : Tables → ℕ → ℕ → ℕ → ℕ → Type 0
ClearsIn t d v n e = Answers t.volumes.epoch t.sessions.batch d v n e

abbrev pub AcknowledgesIn : Setup → Tables → ℕ → ℕ → ℕ → Type 0
AcknowledgesIn s t o e ver = Acknowledges s t.volumes.epoch t.objects.version t.objects.standing o e ver

abbrev pub AckingIn : Setup → Tables → ℕ → Kind → Type 0
AckingIn s t o g = Acking s t.volumes.epoch t.objects.version t.objects.standing o g

abbrev pub PairIn : Setup → World → Message → Message → Type 0
PairIn s w m g = PairOk s w.tables.volumes.epoch w.tables.objects.version w.tables.objects.standing w.requests m g

-- message m is in the list
pub record Sent (q : Queue) (m : Message) : Type 0 where
  pub place : ℕ
  pub below : place < q.len
  pub there : message_at q place ≡ m

abbrev pub from : ℕ → Kind → Message
from d g = record { client = d; kind = g }

-- ---- the whole

pub record Inv (s : Setup) (w : World) : Type 0 where
  pub bounds : Bounds s w.tables.clock w.tables.volumes.expiry w.tables.volumes.guard w.tables.sessions.expiry w.tables.objects.expiry w.tables.holders.lease
  pub epochs : Epochs s w.tables.volumes.epoch w.tables.views.epoch
  pub numbers : Numbers s w.tables.sessions.seen w.requests
  pub versions : Versions s w.tables.objects.value w.tables.objects.version w.copies
  pub offers : Offers s w.tables.sessions.unreachable w.tables.sessions.offer
  pub batches : Batches s w.tables.sessions.unreachable w.tables.sessions.notes w.tables.sessions.batch
  pub writes : Writes s w.tables.clock w.tables.volumes.guard w.tables.sessions.expiry (excuses_of w.tables) w.tables.objects.standing w.tables.objects.end w.tables.holders.lease w.tables.holders.waiting
  -- what each client knows is covered
  pub views : (d v : ℕ) → d < s.clients → v < s.volumes → CoveredIn s w.tables d v (view_in s w d v)
  pub messages : (m : Message) → Sent w.tables.queue m → MessageOk s w m
  pub pairs : (m g : Message) → Sent w.tables.queue m → Sent w.tables.queue g → PairIn s w m g
