-- The questions about step x, read from the words w; the values are y.
use Rattle.std.specs.Prelude.{ℕ, Bool, ◌&&◌, List, ◌≡◌, refl}
use Rattle.protocol.specs.declared.records.Request.{Request}
use Rattle.protocol.specs.declared.setup.Setup.{Setup}
use Rattle.protocol.specs.declared.step.Step.{Step}
use Rattle.protocol.specs.Setup.{in_range}
use Rattle.protocol.specs.Sound.{tables_sound, sound}
use Rattle.protocol.specs.Gate.{known, exists, timely, vacant, growable, or_refuse, refusal_of_step, refusal}
use Rattle.state_words.specs.View.{tables_of, numbers_of}

module _ (s : Setup) (w y : List ℕ) (r : Request) (x : Step) where
  -- questions 2 to 6 do not depend on the values
  pub asked : refusal_of_step s (tables_of w y) r x ≡ or_refuse (known x) 2 (or_refuse (exists s (numbers_of w) x) 3
      (or_refuse (timely (numbers_of w) x) 4 (or_refuse (vacant (numbers_of w) x) 5 (or_refuse (growable s (numbers_of w) r x) 6 0))))
  unfolding refusal_of_step exists timely vacant growable tables_of
  asked = refl

  pub asked_first : (b : Bool) → refusal s (tables_of w y) b r x ≡ or_refuse (in_range s && b && tables_sound s (tables_of w y)) 1 (refusal_of_step s (tables_of w y) r x)
  unfolding refusal sound
  asked_first b = refl
