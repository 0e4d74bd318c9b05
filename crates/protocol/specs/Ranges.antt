-- A setup in range, taken apart: what the code needs of its numbers, and what proofs use.
use Rattle.std.specs.Prelude.{ℕ, ◌<◌, ◌≤◌}
use Rattle.protocol.specs.declared.setup.Setup.{Setup}
use Rattle.protocol.specs.Setup.{volume_of}

pub record Ranges (s : Setup) : Type 0 where
  pub clients : (1 ≤ s.clients) × (s.clients ≤ 16)
  pub volumes : (1 ≤ s.volumes) × (s.volumes ≤ 8)
  pub objects : (1 ≤ s.objects) × (s.objects ≤ 28)
  pub tv : (1 ≤ s.tv) × (s.tv ≤ 3600)
  pub t : (1 ≤ s.t) × (s.t ≤ 1000000)
  pub m : (1 ≤ s.m) × (s.m ≤ 60)
  pub delay : (1 ≤ s.delay) × (s.delay ≤ 65535)
  -- "each object's volume" exists
  pub within : (o : ℕ) → o < s.objects → volume_of s o < s.volumes
