-- Question 1 in a run: in range it never refuses, out of range it always does.
use Rattle.std.specs.Prelude.{◌≡◌}
use Rattle.protocol.specs.declared.setup.Setup.{Setup}
use Rattle.protocol.specs.declared.step.Answer.{Answer}
use Rattle.protocol.specs.declared.step.Answer.TheVariants.{Refused}
use Rattle.protocol.specs.World.{World}
use Rattle.protocol.specs.Soundness.Shape.{WorldShape}
use Rattle.protocol.specs.Soundness.Bounds.{WorldBounded}

-- lengths and bounds together
pub record SoundWorld (s : Setup) (w : World) : Type 0 where
  pub shape : WorldShape s w
  pub bounds : WorldBounded s w

-- ---- the answers
abbrev pub RefusedOne : Answer → Type 0
RefusedOne a = a ≡ Refused 1
