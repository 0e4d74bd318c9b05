-- What a restart requires of the epochs, and the fields that it clears.
use Rattle.std.specs.Prelude.{ℕ, ◌<◌, List}
use Rattle.laws.specs.Parts.{filling}
use Rattle.protocol.specs.declared.tables.Tables.{Tables}
use Rattle.protocol.specs.Tables.{epoch_at}
use Rattle.state_words.specs.Fields.{at, SEEN, SESSION_EXPIRY, UNREACHABLE, OFFER, OBJECT_EXPIRY, STANDING, END, LEASE, WAITING, NOTES, BATCH}

-- the epochs of the first n volumes can grow
pub record EpochsGrow (n : ℕ) (t : Tables) : Type 0 where
  pub below : (v : ℕ) → v < n → epoch_at t v < 4294967295

abbrev pub sessions_cleared : List ℕ → List ℕ
sessions_cleared words =
    filling (at BATCH) 128 0 (filling (at NOTES) 128 0
    (filling (at OFFER) 128 0 (filling (at UNREACHABLE) 128 0 (filling (at SESSION_EXPIRY) 128 0 (filling (at SEEN) 16 0 words)))))

abbrev pub objects_cleared : List ℕ → List ℕ
objects_cleared words = filling (at END) 32 0 (filling (at STANDING) 32 0 (filling (at OBJECT_EXPIRY) 32 0 words))

abbrev pub holders_cleared : List ℕ → List ℕ
holders_cleared words = filling (at WAITING) 32 0 (filling (at LEASE) 512 0 words)
