-- Question 6: the versions and epochs read from the words w are those of the tables.
use Rattle.std.specs.Prelude.{ℕ, ◌+◌, ◌<◌, ◌≤◌, true, List, ◌≡◌, get_or}
use Rattle.std.proofs.Common.{arith}
use Rattle.laws.specs.Parts.{part_at, part_past}
use Rattle.protocol.specs.Sound.{can_grow}
use Rattle.protocol.specs.Tables.{epoch_at, version_at}
use Rattle.state_words.specs.Fields.{word_lengths, at, VOLUME_EPOCH, VERSION}
use Rattle.state_words.specs.View.{tables_of, numbers_of}

module _ (w : List ℕ) where
  pub version_word : (o : ℕ) → o < 32 → can_grow (get_or w (at VERSION + o) 0) ≡ can_grow (version_at (numbers_of w) o)
  unfolding tables_of
  version_word o h = rw (part_at word_lengths w VERSION o h)

  pub version_past : (o : ℕ) → 32 ≤ o → true ≡ can_grow (version_at (numbers_of w) o)
  unfolding tables_of
  version_past o h = rw (part_past word_lengths w VERSION o h)

  pub epoch_grows : (v n : ℕ) → v < n → n ≤ 8 → can_grow (get_or w (at VOLUME_EPOCH + v) 0) ≡ can_grow (epoch_at (numbers_of w) v)
  unfolding tables_of
  epoch_grows v n h k = rw (part_at word_lengths w VOLUME_EPOCH v (omega arith))
