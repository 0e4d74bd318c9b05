-- Whichever step completes writes: the tables that it leaves, the number that it reports and the events that the ledger books go together.
-- Letters: s setup, t and u tables, k their shape, c and d tables with a count, n a count or how many objects are left, g what is staged, l and m
-- ledgers, h what holds before, o and j objects, T clock, b a test; the others are proofs.
use Prim.Native.Nat.{ℕ, ◌+◌, ◌<◌, ◌≤◌}
use Rattle.std.specs.Prelude.{Bool, List, [], ◌∷◌, map, ◌≡◌, length}
use Rattle.std.proofs.Math.Bool.{true, false}
use Rattle.protocol.specs.declared.setup.Setup.{Setup}
use Rattle.protocol.specs.declared.tables.Tables.{Tables}
use Rattle.protocol.specs.Tables.{standing_at, end_at}
use Rattle.protocol.specs.Leases.{end_over}
use Rattle.protocol.specs.Writes.{Counted, Staged}
use Rattle.protocol.specs.Ledger.{completion, is_open, Ledger, book, book_all}
use Rattle.protocol.specs.Soundness.Shape.{Shape}
use Rattle.protocol.specs.Bookkeeping.Booked.{Booked, SameWrites}

-- only standing writes pass the test
abbrev pub OnlyStanding : (Tables → ℕ → Bool) → Type 0
OnlyStanding test = (t : Tables) (o : ℕ) → test t o ≡ true → standing_at t o ≡ true

-- each write is open when it completes, one after the other
unfoldable pub OpenEach : Setup → Ledger → List ℕ → Type 0
OpenEach s l [] = Unit {0}
OpenEach s l (o ∷ os) = (is_open (l.open_write o) ≡ true) × OpenEach s (book s l (completion o)) os

-- c is what is left after the writes of os completed, n being counted before
pub record Settlement (s : Setup) (l : Ledger) (n : ℕ) (c : Counted) (os : List ℕ) : Type 0 where
  pub booked : Booked s c.tables (book_all s l (map completion os))
  pub counts : c.count ≡ n + length os
  pub opens : OpenEach s l os

-- ---- a step that stages g on tables t
pub record StagedOn (s : Setup) (t : Tables) (g : Staged) : Type 0 where
  pub same : SameWrites t g.tables
  pub shape : Shape g.tables
  pub stands : OnlyStanding g.test
  pub fits : g.from + g.many ≤ s.objects

-- ---- after a clock step
pub record Ended (T j : ℕ) (c : Counted) : Type 0 where
  pub clock : c.tables.clock ≡ T
  pub ends : (o : ℕ) → o < j → standing_at c.tables o ≡ true → end_over T (end_at c.tables o) ≡ false
