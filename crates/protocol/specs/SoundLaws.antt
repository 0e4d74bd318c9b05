-- What the gate's first question says of each item: the bounds that the code needs.
use Rattle.std.specs.Prelude.{ℕ, ◌<◌, true, false, ◌≡◌, get_or}
use Rattle.protocol.specs.declared.setup.Setup.{Setup}
use Rattle.protocol.specs.declared.tables.Objects.{Objects}

-- every standing write can still be completed: its version can grow
pub record Growing (s : Setup) (b : Objects) : Type 0 where
  pub below : (o : ℕ) → o < s.objects → get_or b.standing o false ≡ true → get_or b.version o 0 < 4294967295
