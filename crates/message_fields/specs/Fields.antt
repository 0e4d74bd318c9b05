-- 01, "Frame, run file and listing": the fields of a message by its kind, and the message with given fields.
use Rattle.std.specs.Prelude.{ℕ, Bool, cond, ◌&&◌, eqb, Option, None, Some, Result, Ok, Err}
use Rattle.protocol.specs.declared.message.Message.{Message}
use Rattle.protocol.specs.declared.message.Kind.{Kind}
use Rattle.protocol.specs.declared.message.Kind.TheVariants.{Renew, Grant, Invalidate, Ack, Offer, Dropped, Batch, Cleared}
use Rattle.protocol.specs.declared.refusal.Refusal.{Refusal}
use Rattle.protocol.specs.declared.refusal.Refusal.TheVariants as no
use Rattle.message_fields.specs.declared.Fields.{Fields}

-- the ten fields, in the frame's order
abbrev pub row : ℕ → ℕ → ℕ → ℕ → ℕ → ℕ → ℕ → ℕ → ℕ → ℕ → Fields
row k d o p n x e w y v = record { kind = k; client = d; object = o; present = p; number = n; volume_expiry = x; epoch = e; version = w; object_expiry = y; value = v }

-- "RENEW has object, number, epoch and version; GRANT every field; INVALIDATE and ACK object, epoch and version; OFFER and DROPPED volume, number and
-- epoch." "kind (1 to 6 in the order RENEW, GRANT, INVALIDATE, ACK, OFFER, DROPPED)". "Fields a kind lacks are 0". "A GRANT without value has value 0."
-- 02, A6: "BATCH (kind 7) with number, epoch and the noted set, bit k for object k, in the version field", "CLEARED (kind 8) with number, epoch and set; in
-- both the object byte names the volume"
--   kind client object present number volume-expiry epoch version object-expiry value
unfoldable pub kind_fields : ℕ → Kind → Fields
kind_fields d (Renew o n e w) = row 1 d o 0 n 0 e w 0 0
kind_fields d (Grant o n x e w y (Some v)) = row 2 d o 1 n x e w y v
kind_fields d (Grant o n x e w y None) = row 2 d o 0 n x e w y 0
kind_fields d (Invalidate o e w) = row 3 d o 0 0 0 e w 0 0
kind_fields d (Ack o e w) = row 4 d o 0 0 0 e w 0 0
kind_fields d (Offer v n e) = row 5 d v 0 n 0 e 0 0 0
kind_fields d (Dropped v n e) = row 6 d v 0 n 0 e 0 0 0
kind_fields d (Batch v n e m) = row 7 d v 0 n 0 e m 0 0
kind_fields d (Cleared v n e m) = row 8 d v 0 n 0 e m 0 0

abbrev pub fields_of : Message → Fields
fields_of m = kind_fields m.client m.kind

-- the message with these fields, ignoring those that its kind lacks; "value present (0 or 1)", and "A GRANT without value has value 0"
abbrev pub payload_in : Fields → Option ℕ
payload_in f = cond (eqb f.present 0) None (Some f.value)

-- "kind (1 to 6 in the order RENEW, GRANT, INVALIDATE, ACK, OFFER, DROPPED)", "BATCH (kind 7)", "CLEARED (kind 8)"
unfoldable pub kind_in : Fields → Kind
kind_in f =
    cond (eqb f.kind 2) (Grant f.object f.number f.volume_expiry f.epoch f.version f.object_expiry (payload_in f))
    (cond (eqb f.kind 3) (Invalidate f.object f.epoch f.version)
    (cond (eqb f.kind 4) (Ack f.object f.epoch f.version)
    (cond (eqb f.kind 5) (Offer f.object f.number f.epoch)
    (cond (eqb f.kind 6) (Dropped f.object f.number f.epoch)
    (cond (eqb f.kind 7) (Batch f.object f.number f.epoch f.version)
    (cond (eqb f.kind 8) (Cleared f.object f.number f.epoch f.version) (Renew f.object f.number f.epoch f.version)))))))

abbrev pub message_in : Fields → Message
message_in f = record { client = f.client; kind = kind_in f }

unfoldable pub same : Fields → Fields → Bool
same a b =
    eqb a.kind b.kind
    && eqb a.client b.client
    && eqb a.object b.object
    && eqb a.present b.present
    && eqb a.number b.number
    && eqb a.volume_expiry b.volume_expiry
    && eqb a.epoch b.epoch
    && eqb a.version b.version
    && eqb a.object_expiry b.object_expiry
    && eqb a.value b.value

-- Fields are sound if the message read from them has exactly these fields, so "Fields a kind lacks are 0". `Questions` spells that out kind by
-- kind, and `Round` shows what follows.
abbrev pub sound : Fields → Bool
sound f = same (fields_of (message_in f)) f

-- Decodes fields: the message with these fields, or a refusal if no message has them.
unfoldable pub accepted : Fields → Result Message Refusal
accepted f = cond (sound f) (Ok (message_in f)) (Err no.Frame)
