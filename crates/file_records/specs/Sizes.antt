-- The sizes in contracts, by name: bytes of a setup, a step and a trailer, and the most steps.
use Rattle.std.specs.Prelude.{ℕ}

abbrev pub SETUP : ℕ
SETUP = 48

abbrev pub STEP : ℕ
STEP = 16

abbrev pub TRAILER : ℕ
TRAILER = 8

abbrev pub STEPS : ℕ
STEPS = 4000
