-- Which clients a write waits for, and until when, as read from the words.
use Rattle.std.specs.Prelude.{ℕ, min, Bool, cond, List, get_or}
use Rattle.laws.specs.Parts.{parts}
use Rattle.laws.specs.Sets.{bit_at}
use Rattle.protocol.specs.declared.tables.Sessions.{Sessions}
use Rattle.protocol.specs.Tables.{by_volume, by_object}
use Rattle.protocol.specs.Writes.{marked}
use Rattle.lease_tests.specs.Parts.{waits_by}
use Rattle.state_words.specs.Fields.{word_lengths, CLOCK, SESSION_EXPIRY, LEASE, WAITING}

-- `awaited_at`, read from the words: the clients that the write of object o waits for
abbrev pub awaited_in : List ℕ → ℕ → ℕ
awaited_in words o = get_or (parts word_lengths words WAITING) o 0

-- `mark_if_waiting`, for the set m of the clients that a write in volume v waits for
abbrev pub mark_if_in : ℕ → ℕ → Sessions → ℕ → Sessions
mark_if_in m v x d = cond (bit_at m d) (marked x d v) x

-- `waits`, read from the words: whether a new write of object o, in volume v, has to wait for client d
abbrev pub waits_in : List ℕ → ℕ → ℕ → ℕ → Bool
waits_in words v o d =
    waits_by (get_or (parts word_lengths words CLOCK) 0 0) (get_or (parts word_lengths words LEASE) (by_object d o) 0)
    (get_or (parts word_lengths words SESSION_EXPIRY) (by_volume d v) 0)

-- `leased_until`, read from the words: until when client d may show its copy of object o, in volume v
abbrev pub leased_in : List ℕ → ℕ → ℕ → ℕ → ℕ
leased_in words v o d = min (get_or (parts word_lengths words SESSION_EXPIRY) (by_volume d v) 0) (get_or (parts word_lengths words LEASE) (by_object d o) 0)
