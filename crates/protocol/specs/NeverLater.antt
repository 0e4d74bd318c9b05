-- 02, A3: "in runs from fresh tables, this end is never later than the old one"; on tables that no run reaches it can be later. And the greatest over all
-- clients is the same end.
use Rattle.std.specs.Prelude.{ℕ, ◌+◌, min, max}
use Rattle.protocol.specs.declared.setup.Setup.{Setup}
use Rattle.protocol.specs.declared.tables.Tables.{Tables}
use Rattle.protocol.specs.Setup.{volume_of}
use Rattle.protocol.specs.Tables.{volume_expiry_at, guard_at, object_expiry_at}

-- The old rule, 01, Step 4: "latest end is the greatest of clock + m, the lesser of VE and OE, and guard"
unfoldable pub former_end : Setup → Tables → ℕ → ℕ
former_end s t o = max (max (t.clock + s.m) (min (volume_expiry_at t (volume_of s o)) (object_expiry_at t o))) (guard_at t (volume_of s o))
