-- A write completes: by then nobody can show the copy of its object or is counted on for it, so the new version is owed to nobody.
use Rattle.std.specs.Prelude.{ℕ, ◌<◌, true, ◌⊎◌, ◌≡◌}
use Rattle.std.proofs.Math.Bool.{false}
use Rattle.protocol.specs.declared.setup.Setup.{Setup}
use Rattle.protocol.specs.declared.tables.Tables.{Tables}
use Rattle.protocol.specs.Setup.{volume_of}
use Rattle.protocol.specs.Tables.{guard_at, end_at, waiting_at}
use Rattle.protocol.specs.Leases.{server_alive, end_over}

-- when the write of o completes: none waits and the guard has passed, or its latest end is over
abbrev pub Completes : Setup → Tables → ℕ → Type 0
Completes s t o =
    (((d : ℕ) → d < s.clients → waiting_at t d o ≡ false) × (server_alive t.clock (guard_at t (volume_of s o)) ≡ false))
    ⊎ (end_over t.clock (end_at t o) ≡ true)
