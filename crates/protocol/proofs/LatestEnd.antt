-- 02, A3: the laws of the latest end. It is no earlier than the guard and than the lesser lease of each client that the write waits for, and no later than
-- any time that bounds all that its rule names.
use Rattle.std.specs.Prelude.{ℕ, ◌+◌, ◌<◌, ◌≤◌, true, ◌≡◌}
use Rattle.std.proofs.Common.{arith}
use Rattle.laws.specs.Greatest.{greatest_start, greatest_each, greatest_least}
use Rattle.protocol.specs.declared.setup.Setup.{Setup}
use Rattle.protocol.specs.declared.tables.Tables.{Tables}
use Rattle.protocol.specs.Setup.{volume_of}
use Rattle.protocol.specs.Tables.{guard_at}
use Rattle.protocol.specs.Writes.{waits, leased_until, latest_end}

module _ (s : Setup) (t : Tables) (o : ℕ) where
  pub ends_after_guard : guard_at t (volume_of s o) ≤ latest_end s t o
  unfolding latest_end
  ends_after_guard = greatest_start _ _ _ _ _ (omega arith)

  -- whom the write waits for cannot show its copy past it
  pub ends_after_leases : (d : ℕ) → d < s.clients → waits s t o d ≡ true → leased_until s t o d ≤ latest_end s t o
  unfolding latest_end
  ends_after_leases d hd e = greatest_each _ (leased_until s t o) _ _ d (omega arith) e

  pub ends_by : (b : ℕ) → t.clock + s.m ≤ b → guard_at t (volume_of s o) ≤ b → ((d : ℕ) → d < s.clients → waits s t o d ≡ true → leased_until s t o d ≤ b)
      → latest_end s t o ≤ b
  unfolding latest_end
  ends_by b m g each = greatest_least _ _ _ b _ (omega arith) each
