-- 01, "Tables", Message list: at most 64, in sending order.
use Rattle.std.specs.Prelude.{ℕ, ◌+◌, ◌-◌, Bool, cond, List, [], ◌∷◌, ◌++◌, ltb, get_or, set, take, replicate}
use Rattle.laws.specs.Lists.{remove_at}
use Rattle.protocol.specs.declared.message.Queue.{Queue}
use Rattle.protocol.specs.declared.message.Message.{Message}
use Rattle.protocol.specs.declared.message.Kind.{Kind}
use Rattle.protocol.specs.declared.message.Kind.TheVariants.{Renew, Grant, Invalidate, Ack, Offer, Dropped, Batch, Cleared}

-- what an unused place of the list holds in a run from fresh tables
abbrev pub blank : Message
blank = record { client = 0; kind = Renew 0 0 0 0 }

abbrev pub message : ℕ → Kind → Message
message d k = record { client = d; kind = k }

-- the messages of the list, in sending order
abbrev pub messages : Queue → List Message
messages q = take q.len q.items

abbrev pub message_at : Queue → ℕ → Message
message_at q i = get_or q.items i blank

-- "at most 64"
abbrev pub has_room : Queue → Bool
has_room q = ltb q.len 64

-- "A message sent to a full list is lost."
unfoldable pub pushed : Queue → Message → Queue
pushed q m = cond (has_room q) (record { items = set q.items q.len m; len = q.len + 1 }) q

-- "A removal closes the gap." The place that it frees is blank
unfoldable pub removed : Queue → ℕ → Queue
removed q i = record { items = remove_at q.items i ++ (blank ∷ []); len = q.len - 1 }

-- Step 7: "send a copy, to the end"
abbrev pub doubled : Queue → ℕ → Queue
doubled q i = pushed q (message_at q i)

-- the object that a message is about; an OFFER, a DROPPED, a BATCH and a CLEARED are about a volume, and 0 stands for its place
abbrev pub object_of : Kind → ℕ
object_of (Renew o n e w) = o
object_of (Grant o n x e w y p) = o
object_of (Invalidate o e w) = o
object_of (Ack o e w) = o
object_of (Offer v n e) = 0
object_of (Dropped v n e) = 0
object_of (Batch v n e m) = 0
object_of (Cleared v n e m) = 0

abbrev pub empty_queue : Queue
empty_queue = record { items = replicate 64 blank; len = 0 }
