-- Four saved states beside the present one (02, A7), each in words and values of its own.
-- Letters: s setup, w words, x values, ws and xs the words and the values under each name, n a name, u what is saved under it.
use Rattle.std.specs.Prelude.{ℕ, Bool, cond, get_or, set}
use mathlib.Core.List.{List, []}
use Rattle.laws.specs.Flags.{flag}
use Rattle.laws.specs.Line.{Saved, never, state}
use Rattle.laws.specs.Parts.{parts}
use Rattle.laws.specs.Tabulate.{tabulate}
use Rattle.protocol.specs.declared.setup.Setup.{Setup}
use Rattle.protocol.specs.World.{World}
use Rattle.protocol.specs.Saved.{Machine, names}
use Rattle.state_words.specs.Fields.{word_lengths, at, SAVED}
use Rattle.state_words.specs.View.{world_of}

-- whether a state was saved in these words
abbrev pub is_saved : List ℕ → Bool
is_saved w = flag (get_or (parts word_lengths w SAVED) 0 0)

abbrev pub saved_in : Setup → List ℕ → List ℕ → Saved World
saved_in s w x = cond (is_saved w) (state (world_of s w x)) never

-- what is saved under each name
unfoldable pub saved_of : Setup → List (List ℕ) → List (List ℕ) → List (Saved World)
saved_of s ws xs = tabulate (λ n. saved_in s (get_or ws n []) (get_or xs n [])) 0 names

abbrev pub machine_of : Setup → List ℕ → List ℕ → List (List ℕ) → List (List ℕ) → Machine
machine_of s w x ws xs = record { now = world_of s w x; saved = saved_of s ws xs }

-- the words with the mark of a saved state, or without it
abbrev pub marked : List ℕ → List ℕ
marked w = set w (at SAVED) 1

abbrev pub unmarked : List ℕ → List ℕ
unmarked w = set w (at SAVED) 0
