-- The fields in the words and in the values: each has a number, and the lengths of those before it give its offset.
use Rattle.std.specs.Prelude.{ℕ, ◌+◌, List, [], ◌∷◌}
use Rattle.laws.specs.Parts.{start}
use Rattle.laws.specs.Store.{store_each, always}

-- the fields' lengths, in the order of their numbers; a new field goes at the end of its side (network, server, clients), before the mark of a saved state
abbrev pub word_lengths : List ℕ
word_lengths =
    1 ∷ 1 ∷ 576
    ∷ 8 ∷ 8 ∷ 8 ∷ 16 ∷ 128 ∷ 128 ∷ 128 ∷ 32 ∷ 32 ∷ 32 ∷ 32 ∷ 512 ∷ 32 ∷ 128 ∷ 128
    ∷ 128 ∷ 128 ∷ 512 ∷ 512 ∷ 16 ∷ 16 ∷ 16 ∷ 16
    ∷ 1 ∷ []

abbrev pub value_lengths : List ℕ
value_lengths = 64 ∷ 32 ∷ 32 ∷ 512 ∷ []

-- the network's words
abbrev pub CLOCK : ℕ
CLOCK = 0

abbrev pub LENGTH : ℕ
LENGTH = 1

abbrev pub MESSAGES : ℕ
MESSAGES = 2

-- the server's words
abbrev pub VOLUME_EPOCH : ℕ
VOLUME_EPOCH = 3

abbrev pub VOLUME_EXPIRY : ℕ
VOLUME_EXPIRY = 4

abbrev pub GUARD : ℕ
GUARD = 5

abbrev pub SEEN : ℕ
SEEN = 6

abbrev pub SESSION_EXPIRY : ℕ
SESSION_EXPIRY = 7

abbrev pub UNREACHABLE : ℕ
UNREACHABLE = 8

abbrev pub OFFER : ℕ
OFFER = 9

abbrev pub VERSION : ℕ
VERSION = 10

abbrev pub OBJECT_EXPIRY : ℕ
OBJECT_EXPIRY = 11

abbrev pub STANDING : ℕ
STANDING = 12

abbrev pub END : ℕ
END = 13

abbrev pub LEASE : ℕ
LEASE = 14

abbrev pub WAITING : ℕ
WAITING = 15

abbrev pub NOTES : ℕ
NOTES = 16

abbrev pub BATCH : ℕ
BATCH = 17

-- the clients' words
abbrev pub VIEW_EPOCH : ℕ
VIEW_EPOCH = 18

abbrev pub VIEW_EXPIRY : ℕ
VIEW_EXPIRY = 19

abbrev pub COPY_VERSION : ℕ
COPY_VERSION = 20

abbrev pub COPY_EXPIRY : ℕ
COPY_EXPIRY = 21

abbrev pub REQUEST_NEXT : ℕ
REQUEST_NEXT = 22

abbrev pub REQUEST_STANDING : ℕ
REQUEST_STANDING = 23

abbrev pub REQUEST_NUMBER : ℕ
REQUEST_NUMBER = 24

abbrev pub REQUEST_OBJECT : ℕ
REQUEST_OBJECT = 25

-- whether these words are a saved state (02, A7)
abbrev pub SAVED : ℕ
SAVED = 26

-- the values: the network's, the server's two, the clients'
abbrev pub MESSAGE_VALUE : ℕ
MESSAGE_VALUE = 0

abbrev pub VALUE : ℕ
VALUE = 1

abbrev pub PENDING : ℕ
PENDING = 2

abbrev pub COPY_VALUE : ℕ
COPY_VALUE = 3

-- the number of words, and of values
abbrev pub WORDS : ℕ
WORDS = 3275

abbrev pub VALUES : ℕ
VALUES = 640

-- the length of a field with one word for each client and object
abbrev pub CLIENT_OBJECTS : ℕ
CLIENT_OBJECTS = 512

-- the words of a row of the message list
abbrev pub ROW : ℕ
ROW = 9

-- the offset of a field
abbrev pub at : ℕ → ℕ
at k = start word_lengths k

abbrev pub at_value : ℕ → ℕ
at_value k = start value_lengths k

-- the n items from `field` on become x; of numbers, this is `filling`
abbrev pub filled : {A : Type 0} → ℕ → ℕ → A → List A → List A
filled field n x l = store_each always (λ (i : ℕ). field + i) (λ (i : ℕ). x) l n
