-- Lists of messages of any length, and what becomes of a message list of 64 places when such a list is sent to it.
-- Letters: q a message list, m and g messages, l and k lists of them, i a place.
use Rattle.std.specs.Prelude.{List, [], ◌∷◌, ◌⊎◌, ◌≡◌}
use Rattle.protocol.specs.declared.message.Message.{Message}
use Rattle.protocol.specs.declared.message.Queue.{Queue}
use Rattle.protocol.specs.Messages.{pushed}

-- m is in l
unfoldable pub In : Message → List Message → Type 0
In m [] = ⊥
In m (g ∷ l) = (m ≡ g) ⊎ In m l

-- a list sent, message by message
unfoldable pub push_all : Queue → List Message → Queue
push_all q [] = q
push_all q (m ∷ l) = push_all (pushed q m) l
