-- The message list: `LENGTH` holds the number of messages, row i of `MESSAGES` the nine words of message i, and entry i of `MESSAGE_VALUE` its value.
use Rattle.std.specs.Prelude.{ℕ, ◌+◌, ◌*◌, ◌%◌, ◌<◌, Bool, cond, ◌&&◌, List, [], ◌∷◌, ltb, get_or}
use Rattle.laws.specs.Tabulate.{tabulate}
use Rattle.protocol.specs.declared.message.Message.{Message}
use Rattle.protocol.specs.declared.message.Kind.TheVariants.{Renew}
use Rattle.protocol.specs.declared.message.Queue.{Queue}
use Rattle.protocol.specs.Messages.{blank, message}
use Rattle.message_fields.specs.declared.Fields.{Fields}
use Rattle.message_fields.specs.Fields.{row, message_in, sound}
use Rattle.state_words.specs.Fields.{LENGTH, MESSAGES, MESSAGE_VALUE}

-- the nine words of a message with these fields, in the frame's order
abbrev pub words_of : Fields → List ℕ
words_of f = f.kind ∷ f.client ∷ f.object ∷ f.present ∷ f.number ∷ f.volume_expiry ∷ f.epoch ∷ f.version ∷ f.object_expiry ∷ []

-- .. of which the first four are bytes
abbrev pub Narrow : Fields → Type 0
Narrow f = (f.kind < 256) × (f.client < 256) × (f.object < 256) × (f.present < 256)

-- the fields in row i; of the first four words, only the lowest byte counts
unfoldable pub fields_at : List ℕ → List ℕ → ℕ → Fields
fields_at rows values i =
    row (get_or rows (i * 9 + 0) 0 % 256) (get_or rows (i * 9 + 1) 0 % 256) (get_or rows (i * 9 + 2) 0 % 256) (get_or rows (i * 9 + 3) 0 % 256)
    (get_or rows (i * 9 + 4) 0) (get_or rows (i * 9 + 5) 0) (get_or rows (i * 9 + 6) 0) (get_or rows (i * 9 + 7) 0) (get_or rows (i * 9 + 8) 0) (get_or values i 0)

-- whether the first four words of row i are bytes
unfoldable pub narrow_at : List ℕ → ℕ → Bool
narrow_at rows i =
    ltb (get_or rows (i * 9 + 0) 0) 256 && ltb (get_or rows (i * 9 + 1) 0) 256 && ltb (get_or rows (i * 9 + 2) 0) 256 && ltb (get_or rows (i * 9 + 3) 0) 256

-- whether row i is a message: its first four words are bytes, and kind, value present and the fields that the kind lacks are right
abbrev pub is_message : List ℕ → List ℕ → ℕ → Bool
is_message rows values i = narrow_at rows i && sound (fields_at rows values i)

-- what a row reads as if it is not a message: no setup has client 255, so question 1 refuses the tables (`LiveRows`)
abbrev pub stray : Message
stray = message 255 (Renew 0 0 0 0)

-- the message in row i
unfoldable pub message_of : List ℕ → List ℕ → ℕ → Message
message_of rows values i = cond (is_message rows values i) (message_in (fields_at rows values i)) stray

-- message i of n; rows past the last message read as blank, whatever they hold
unfoldable pub message_from : ℕ → List ℕ → List ℕ → ℕ → Message
message_from n rows values i = cond (ltb i n) (message_of rows values i) blank

-- the message list in these fields
abbrev pub queue_in : (ℕ → List ℕ) → (ℕ → List ℕ) → Queue
queue_in words values = record {
  items = tabulate (message_from (get_or (words LENGTH) 0 0) (words MESSAGES) (values MESSAGE_VALUE)) 0 64;
  len = get_or (words LENGTH) 0 0;
}
