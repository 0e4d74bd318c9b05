-- 01, "Frame, run file and listing": the setup and the steps in a run file's bytes.
use Rattle.std.specs.Prelude.{ℕ, ◌+◌, List, get_or}
use Rattle.bytes_layout.specs.Number.{bytes_at, number_at}
use Rattle.protocol.specs.declared.setup.Setup.{Setup}
use Rattle.protocol.specs.declared.step.Step.{Step}

-- "setup (48 bytes: dash, volume and object counts, a 0, tv, t, m, 32 volume bytes ..)". 02, A6: "d in setup, 1 to 65,535, in the last four volume bytes"
unfoldable pub setup_in : List ℕ → ℕ → Setup
setup_in l p = record {
  clients = get_or l p 0;
  volumes = get_or l (p + 1) 0;
  objects = get_or l (p + 2) 0;
  tv = number_at l (p + 4) 4;
  t = number_at l (p + 8) 4;
  m = number_at l (p + 12) 4;
  volume = bytes_at l (p + 16) 28;
  delay = number_at l (p + 44) 4;
}

-- "steps of 16 bytes (kind, dash, object, place; clock in 4; value in 8 ..)"
unfoldable pub step_in : List ℕ → ℕ → Step
step_in l p = record {
  kind = get_or l p 0;
  client = get_or l (p + 1) 0;
  object = get_or l (p + 2) 0;
  place = get_or l (p + 3) 0;
  clock = number_at l (p + 4) 4;
  value = number_at l (p + 8) 8;
}

-- The step of zeros, used where there is no step.
abbrev pub no_step : Step
no_step = record { kind = 0; client = 0; object = 0; place = 0; clock = 0; value = 0 }
