-- The ledger against the server's tables, and what one event changes.
-- Letters: s setup, t and u tables, k their shape, l a ledger, h that it is booked, o and j objects, y value, w a write; the others are proofs.
use Prim.Native.Nat.{ℕ, ◌+◌, ◌<◌}
use Rattle.std.specs.Prelude.{◌≡◌}
use Rattle.protocol.specs.declared.setup.Setup.{Setup}
use Rattle.protocol.specs.declared.tables.Tables.{Tables}
use Rattle.protocol.specs.Tables.{value_at}
use Rattle.protocol.specs.Ledger.{Ledger, open_count}
use Rattle.protocol.specs.Agreement.{standing_write}

-- the ledger has what the tables have, and its tallies add up
pub record Booked (s : Setup) (t : Tables) (l : Ledger) : Type 0 where
  pub values : (o : ℕ) → o < s.objects → value_at t o ≡ l.posted_value o
  pub writes : (o : ℕ) → o < s.objects → standing_write t o ≡ l.open_write o
  pub tallies : l.accepted_count ≡ l.completed_count + l.cut_off_count + open_count s l

-- ---- tables that differ in nothing that the ledger has
pub record SameWrites (t u : Tables) : Type 0 where
  pub value : u.objects.value ≡ t.objects.value
  pub standing : u.objects.standing ≡ t.objects.standing
  pub pending : u.objects.pending ≡ t.objects.pending
  pub end : u.objects.end ≡ t.objects.end
