-- A call of the step for a save or a return: what it answers and leaves is the same under any setup.
-- Letters: s setup, w words, x values, ws and xs the words and the values under each name, v, z, vs and zs the same afterwards, y a step, a its answer.
use Rattle.std.specs.Prelude.{ℕ, true, List, ◌≡◌}
use Rattle.protocol.specs.declared.setup.Setup.{Setup}
use Rattle.protocol.specs.declared.step.Answer.{Answer}
use Rattle.protocol.specs.declared.step.Step.{Step}
use Rattle.protocol.specs.Setup.{in_range}
use Rattle.protocol.specs.Saved.{Called}
use Rattle.protocol.specs.SavedLaws.{SoundMachine}
use Rattle.state_words.specs.Saved.{machine_of}

abbrev pub CalledByName : (w x : List ℕ) (ws xs : List (List ℕ)) → Step → Answer → (v z : List ℕ) (vs zs : List (List ℕ)) → Type 0
CalledByName w x ws xs y a v z vs zs =
    (s : Setup) → in_range s ≡ true → SoundMachine s (machine_of s w x ws xs) → Called s (machine_of s w x ws xs) y a (machine_of s v z vs zs)
