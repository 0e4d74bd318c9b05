-- A pass over objects that completes the writes that a test lets through.
use Rattle.std.specs.Prelude.{ℕ, Bool, true, ◌≡◌}
use Rattle.protocol.specs.declared.setup.Setup.{Setup}
use Rattle.protocol.specs.declared.tables.Tables.{Tables}
use Rattle.protocol.specs.Tables.{standing_at}
use Rattle.protocol.specs.Safety.Completing.{Completes}

-- a test that lets through standing writes only, and only when they may complete
abbrev pub Admits : Setup → (Tables → ℕ → Bool) → Type 0
Admits s test = (t : Tables) (o : ℕ) → test t o ≡ true → (standing_at t o ≡ true) × Completes s t o
