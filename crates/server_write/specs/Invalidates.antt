-- The INVALIDATE that a write sends to each client it waits for.
use Rattle.std.specs.Prelude.{ℕ, ◌+◌}
use Rattle.protocol.specs.declared.message.Kind.{Kind}
use Rattle.protocol.specs.declared.message.Kind.TheVariants.{Invalidate}
use Rattle.protocol.specs.declared.setup.Setup.{Setup}
use Rattle.protocol.specs.declared.tables.Tables.{Tables}
use Rattle.protocol.specs.Setup.{volume_of}
use Rattle.protocol.specs.Tables.{epoch_at, version_at}

-- what `invalidation` sends, with no client named yet
abbrev pub invalidate_kind : Setup → Tables → ℕ → Kind
invalidate_kind s t o = Invalidate o (epoch_at t (volume_of s o)) (version_at t o + 1)
