-- A machine's step of 01's kinds is the step of its present state; a save or a return needs no other question than 1 and 11.
-- Letters: s setup, w world, q a machine, u what is saved under a name, n a name, x a step, a an answer.
use Rattle.std.specs.Prelude.{◌≡◌}
use Rattle.std.proofs.Math.Bool.{false}
use mathlib.Core.List.{List}
use Rattle.laws.specs.Lists.{All}
use Rattle.laws.specs.Line.{OfEach}
use Rattle.protocol.specs.declared.setup.Setup.{Setup}
use Rattle.protocol.specs.declared.step.Step.{Step}
use Rattle.protocol.specs.Saved.{Machine, uses_name}
use Rattle.protocol.specs.Soundness.Question.{SoundWorld}

-- ---- a machine whose states are all sound
abbrev pub SoundMachine : Setup → Machine → Type 0
SoundMachine s q = OfEach (SoundWorld s) q

-- ---- steps of 01's kinds alone
abbrev pub Plain : List Step → Type 0
Plain xs = All (λ (x : Step). uses_name x ≡ false) xs
