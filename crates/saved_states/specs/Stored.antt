-- What a save stores and a return restores, for the words of any setup.
-- Letters: s setup, w words, x values, ws and xs the words and the values under each name, vs and ys the same afterwards, n a name.
use Rattle.std.specs.Prelude.{ℕ, ◌<◌, List, [], ◌≡◌, length, get_or, set}
use Rattle.laws.specs.Line.{state}
use Rattle.protocol.specs.declared.setup.Setup.{Setup}
use Rattle.protocol.specs.Saved.{names}
use Rattle.state_words.specs.Fields.{WORDS}
use Rattle.state_words.specs.View.{world_of}
use Rattle.state_words.specs.Saved.{marked, unmarked, saved_of}
use Rattle.state_words.proofs.SavedLaws.{same_world, marked_saved, saved_set}

-- the words are stored with the mark of a saved state; the lengths are those of the types
pub record Saves (w x : List ℕ) (ws xs : List (List ℕ)) (n : ℕ) (vs ys : List (List ℕ)) : Type 0 where
  pub words : vs ≡ set ws n (marked w)
  pub values : ys ≡ set xs n x
  pub long : length w ≡ WORDS
  pub names_words : length ws ≡ names
  pub names_values : length xs ≡ names

-- the words are those of the saved state, without the mark
pub record Restores (w x : List ℕ) (ws xs : List (List ℕ)) (n : ℕ) : Type 0 where
  pub words : w ≡ unmarked (get_or ws n [])
  pub values : x ≡ get_or xs n []

-- the state is saved under the name, and nothing else changes
pub saves_world : (s : Setup) (w x : List ℕ) (ws xs : List (List ℕ)) (n : ℕ) (vs ys : List (List ℕ)) → n < names → Saves w x ws xs n vs ys
    → saved_of s vs ys ≡ set (saved_of s ws xs) n (state (world_of s w x))
saves_world s w x ws xs n vs ys h e = rw (e.words, e.values, saved_set s ws xs n h (marked w) x e.names_words e.names_values, marked_saved s w x e.long)

pub restores_world : (s : Setup) (w x : List ℕ) (ws xs : List (List ℕ)) (n : ℕ) → Restores w x ws xs n → world_of s w x ≡ world_of s (get_or ws n []) (get_or xs n [])
restores_world s w x ws xs n e = rw (e.words, e.values) (same_world s (get_or ws n []) (get_or xs n []) 0)
