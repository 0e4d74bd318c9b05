-- Question 1 for the saved states in their words and values.
-- Letters: s setup, w a world, ws and xs the words and the values under each name, n a name.
use Rattle.std.specs.Prelude.{ℕ, Bool, List, [], ◌≡◌, get_or}
use Rattle.std.proofs.Common.{arith, sym, ap}
use Rattle.laws.specs.Loop.{all_from, all_same}
use Rattle.protocol.specs.declared.setup.Setup.{Setup}
use Rattle.protocol.specs.World.{World}
use Rattle.protocol.specs.Saved.{names, sound_under, saved_sound}
use Rattle.state_words.specs.Saved.{saved_in, saved_of}
use Rattle.state_words.proofs.SavedLaws.{saved_at}

unfoldable pub all_sound : Setup → List (List ℕ) → List (List ℕ) → Bool
all_sound s ws xs = all_from (λ (n : ℕ). sound_under s (saved_in s (get_or ws n []) (get_or xs n []))) 0 names

-- which is question 1 of a machine with these saved states
pub all_sound_law : (s : Setup) (w : World) (ws xs : List (List ℕ)) → all_sound s ws xs ≡ saved_sound s (record { now = w; saved = saved_of s ws xs })
unfolding all_sound saved_sound
all_sound_law s w ws xs = all_same _ _ 0 names (λ n a b. ap (sound_under s) (sym (saved_at s ws xs n (omega arith))))
