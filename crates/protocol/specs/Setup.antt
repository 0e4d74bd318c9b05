-- 01, "Tables", Setup: what is in range.
use Rattle.std.specs.Prelude.{ℕ, Bool, cond, ◌&&◌, ltb, leb, eqb, get_or}
use Rattle.laws.specs.Loop.{all_from}
use Rattle.laws.specs.Sets.{set_of}
use Rattle.protocol.specs.declared.setup.Setup.{Setup}

-- low ≤ n ≤ high
abbrev pub between : ℕ → ℕ → ℕ → Bool
between low high n = leb low n && leb n high

-- "each object's volume"
abbrev pub volume_of : Setup → ℕ → ℕ
volume_of s o = get_or s.volume o 0

-- whether o is an object of volume v, and the set of those
abbrev pub in_volume : Setup → ℕ → ℕ → Bool
in_volume s v o = ltb o s.objects && eqb (volume_of s o) v

unfoldable pub objects_in : Setup → ℕ → ℕ
objects_in s v = set_of (in_volume s v) 32

-- an object's volume exists, and a slot past the objects holds 0
abbrev pub volume_fits : Setup → ℕ → Bool
volume_fits s o = cond (ltb o s.objects) (ltb (volume_of s o) s.volumes) (eqb (volume_of s o) 0)

-- "1 to 16 dashes, 1 to 8 volumes; each object's volume (0 past the count); tv 1 to 3,600; t 1 to 1,000,000; m 1 to 60". 02, A6: "d in setup, 1 to 65,535, in
-- the last four volume bytes, so objects now end at 28"
unfoldable pub in_range : Setup → Bool
in_range s =
    between 1 16 s.clients
    && between 1 8 s.volumes
    && between 1 28 s.objects
    && between 1 3600 s.tv
    && between 1 1000000 s.t
    && between 1 60 s.m
    && all_from (volume_fits s) 0 28
    && between 1 65535 s.delay
