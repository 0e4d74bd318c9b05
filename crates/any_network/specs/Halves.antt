-- The two halves of the system. The server's half owns the server's tables; a client's half owns what that client knows and holds. Each call takes what its
-- owner does or what arrives, and returns the half that is left and what is sent. No call of one half reads anything of another.
-- Letters: s setup, h the server's half, c a client's half, d its number, o object, v volume, T clock, a value, x a step, t tables; of a message n number,
-- e epoch, w version, x and y volume and object expiry, p payload, m set; z a copy, g a sweep or what a rule counted, l copies.
use Rattle.std.specs.Prelude.{ℕ, suc, Bool, cond, not, ◌&&◌, List, [], ◌∷◌, eqb, get_or, set, replicate}
use Rattle.protocol.specs.declared.message.Message.{Message}
use Rattle.protocol.specs.declared.message.Kind.{Kind}
use Rattle.protocol.specs.declared.message.Kind.TheVariants.{Renew, Grant, Invalidate, Ack, Offer, Dropped, Batch, Cleared}
use Rattle.protocol.specs.declared.records.Copy.{Copy}
use Rattle.protocol.specs.declared.records.Request.{Request}
use Rattle.protocol.specs.declared.setup.Setup.{Setup}
use Rattle.protocol.specs.declared.step.Step.{Step}
use Rattle.protocol.specs.declared.step.Sweep.{Sweep}
use Rattle.protocol.specs.declared.step.Sweep.TheVariants as sweep
use Rattle.protocol.specs.declared.tables.Volumes.{Volumes}
use Rattle.protocol.specs.declared.tables.Sessions.{Sessions}
use Rattle.protocol.specs.declared.tables.Objects.{Objects}
use Rattle.protocol.specs.declared.tables.Holders.{Holders}
use Rattle.protocol.specs.declared.tables.Tables.{Tables}
use Rattle.protocol.specs.Setup.{volume_of}
use Rattle.protocol.specs.Messages.{message, messages, empty_queue}
use Rattle.protocol.specs.Tables.{no_copy, no_request, fresh_request, fresh_volumes, fresh_sessions, fresh_objects, fresh_holders, fresh_views, fresh_tables}
use Rattle.protocol.specs.Leases.{client_alive}
use Rattle.protocol.specs.Writes.{Counted, settled, write_staged, clock_staged}
use Rattle.protocol.specs.Server.{renewed, ack_staged, drop_staged, notes_cleared, server_restarted}
use Rattle.protocol.specs.Client.{numbered, ended, turned, stands, filled, forgotten, swept}
use Rattle.protocol.specs.Gate.{refusal_of_step}
use Rattle.protocol.specs.Decide.{uncounted}

-- ---- the server's half
pub record ServerHalf : Type 0 where
  pub clock : ℕ
  pub volumes : Volumes
  pub sessions : Sessions
  pub objects : Objects
  pub holders : Holders

abbrev pub fresh_server : ServerHalf
fresh_server = record { clock = 0; volumes = fresh_volumes; sessions = fresh_sessions; objects = fresh_objects; holders = fresh_holders }

-- 01's tables with the server's half in them, no message and nothing that a client knows
abbrev pub tables_for : ServerHalf → Tables
tables_for h = record { clock = h.clock; volumes = h.volumes; sessions = h.sessions; objects = h.objects; holders = h.holders; views = fresh_views; queue = empty_queue }

abbrev pub server_in : Tables → ServerHalf
server_in t = record { clock = t.clock; volumes = t.volumes; sessions = t.sessions; objects = t.objects; holders = t.holders }

-- what a call returns: the half, what it sends, in order, and how many writes completed
pub record ServerReply : Type 0 where
  pub half : ServerHalf
  pub out : List Message
  pub count : ℕ

abbrev pub reply_in : Counted → ServerReply
reply_in g = record { half = server_in g.tables; out = messages g.tables.queue; count = g.count }

abbrev pub server_clock : Setup → ServerHalf → ℕ → ServerReply
server_clock s h T = reply_in (settled s (clock_staged s (tables_for h) T))

abbrev pub server_write : Setup → ServerHalf → ℕ → ℕ → ServerReply
server_write s h o a = reply_in (settled s (write_staged s (tables_for h) o a))

abbrev pub server_restart : Setup → ServerHalf → ServerReply
server_restart s h = reply_in (uncounted (server_restarted s (tables_for h)))

-- RENEW, ACK, DROPPED and CLEARED are for the server; the others leave it as it is
abbrev pub server_receive : Setup → ServerHalf → ℕ → Kind → ServerReply
server_receive s h d (Renew o n e w) = reply_in (uncounted (renewed s (tables_for h) d o n e w))
server_receive s h d (Grant o n x e w y p) = reply_in (uncounted (tables_for h))
server_receive s h d (Invalidate o e w) = reply_in (uncounted (tables_for h))
server_receive s h d (Ack o e w) = reply_in (settled s (ack_staged s (tables_for h) d o e w))
server_receive s h d (Offer v n e) = reply_in (uncounted (tables_for h))
server_receive s h d (Dropped v n e) = reply_in (settled s (drop_staged s (tables_for h) d v n e))
server_receive s h d (Batch v n e m) = reply_in (uncounted (tables_for h))
server_receive s h d (Cleared v n e m) = reply_in (uncounted (notes_cleared s (tables_for h) d v n e m))

-- questions 2 to 6 about a step of the server's, which ask nothing of a client
abbrev pub server_refusal : Setup → ServerHalf → Step → ℕ
server_refusal s h x = refusal_of_step s (tables_for h) no_request x

-- ---- a client's half: its clock, what it knows of each volume, its copy of each object, its request
pub record ClientHalf : Type 0 where
  pub clock : ℕ
  pub epoch : List ℕ
  pub expiry : List ℕ
  pub copies : List Copy
  pub request : Request

abbrev pub fresh_client : Setup → ClientHalf
fresh_client s = record { clock = 0; epoch = replicate 8 0; expiry = replicate 8 0; copies = replicate s.objects no_copy; request = fresh_request }

abbrev pub epoch_in : ClientHalf → ℕ → ℕ
epoch_in c v = get_or c.epoch v 0

abbrev pub expiry_in : ClientHalf → ℕ → ℕ
expiry_in c v = get_or c.expiry v 0

abbrev pub copy_in : ClientHalf → ℕ → Copy
copy_in c o = get_or c.copies o no_copy

-- what a call returns: the half and what it sends
pub record ClientReply : Type 0 where
  pub half : ClientHalf
  pub out : List Message

abbrev pub quietly : ClientHalf → ClientReply
quietly c = record { half = c; out = [] }

-- the same half at another time
abbrev pub client_to : ClientHalf → ℕ → ClientHalf
client_to c T = record { clock = T; epoch = c.epoch; expiry = c.expiry; copies = c.copies; request = c.request }

-- "copy present and both leases alive"
abbrev pub client_shows : Setup → ClientHalf → ℕ → Bool
client_shows s c o = not (eqb (copy_in c o).version 0) && (client_alive c.clock (expiry_in c (volume_of s o)) && client_alive c.clock (copy_in c o).expiry)

-- "take the next number, replace the standing request, send RENEW with number, known epoch and held version"
abbrev pub client_ask : Setup → ClientHalf → ℕ → ℕ → ClientReply
client_ask s c d o = record {
  half = record { clock = c.clock; epoch = c.epoch; expiry = c.expiry; copies = c.copies; request = numbered c.request o };
  out = message d (Renew o c.request.next (epoch_in c (volume_of s o)) (copy_in c o).version) ∷ [];
}

-- "only its next request number remains"
abbrev pub client_restart : Setup → ClientHalf → ClientHalf
client_restart s c = record { clock = c.clock; epoch = replicate 8 0; expiry = replicate 8 0; copies = replicate s.objects no_copy; request = ended c.request }

-- GRANT: "store its fields, epoch too, and end the request"
abbrev pub client_granted : Setup → ClientHalf → ℕ → ℕ → ℕ → Copy → ClientHalf
client_granted s c o x e z = record {
  clock = c.clock;
  epoch = set c.epoch (volume_of s o) e;
  expiry = set c.expiry (volume_of s o) x;
  copies = set c.copies o z;
  request = ended c.request;
}

-- INVALIDATE: "erase the copy .., forget a standing request for that object"
abbrev pub client_invalidated : ClientHalf → ℕ → ClientHalf
client_invalidated c o = record {
  clock = c.clock;
  epoch = c.epoch;
  expiry = c.expiry;
  copies = set c.copies o no_copy;
  request = turned c.request (forgotten c.request o);
}

-- what a sweep makes of copies, the first of which is of object o
unfoldable pub swept_from : Setup → Sweep → List Copy → ℕ → List Copy
swept_from s g [] o = []
swept_from s g (z ∷ l) o = swept s g z o ∷ swept_from s g l (suc o)

-- OFFER: "Take its epoch, set that volume's expiry and all its object expiries to 0, end the request"
abbrev pub client_offered : Setup → ClientHalf → ℕ → ℕ → ClientHalf
client_offered s c v e = record {
  clock = c.clock;
  epoch = set c.epoch v e;
  expiry = set c.expiry v 0;
  copies = swept_from s (sweep.Expire v) c.copies 0;
  request = ended c.request;
}

-- 02, A6, BATCH of the set m: "the dash erases those copies, ends the request"
abbrev pub client_forgets : Setup → ClientHalf → ℕ → ClientHalf
client_forgets s c m = record {
  clock = c.clock;
  epoch = c.epoch;
  expiry = c.expiry;
  copies = swept_from s (sweep.Forget m) c.copies 0;
  request = ended c.request;
}

-- GRANT, INVALIDATE, OFFER and BATCH are for a client; the others leave it as it is
abbrev pub client_receive : Setup → ClientHalf → ℕ → Kind → ClientReply
client_receive s c d (Renew o n e w) = quietly c
client_receive s c d (Grant o n x e w y p) = cond (stands c.request n) (quietly (client_granted s c o x e (filled (copy_in c o) w y p))) (quietly c)
client_receive s c d (Invalidate o e w) = record { half = client_invalidated c o; out = message d (Ack o e w) ∷ [] }
client_receive s c d (Ack o e w) = quietly c
client_receive s c d (Offer v n e) = cond (stands c.request n) (record { half = client_offered s c v e; out = message d (Dropped v n e) ∷ [] }) (quietly c)
client_receive s c d (Dropped v n e) = quietly c
client_receive s c d (Batch v n e m) = cond (stands c.request n) (record { half = client_forgets s c m; out = message d (Cleared v n e m) ∷ [] }) (quietly c)
client_receive s c d (Cleared v n e m) = quietly c

-- questions 2 to 6 about a step of a client's, which ask nothing of the server
abbrev pub client_refusal : Setup → ClientHalf → Step → ℕ
client_refusal s c x = refusal_of_step s fresh_tables c.request x
