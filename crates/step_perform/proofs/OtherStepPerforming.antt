-- An accepted step x that is not a client's, by its kind: a function that turns the tables t into u does what the decision says.
use Rattle.std.proofs.Common.{◌≡◌, ℕ, ◌≤◌, true, leb}
use borrow.Author.Tests.{leb-true}
use Rattle.laws.specs.Choice.{and-true}
use Rattle.protocol.specs.declared.records.Copy.{Copy}
use Rattle.protocol.specs.declared.records.Request.{Request}
use Rattle.protocol.specs.declared.setup.Setup.{Setup}
use Rattle.protocol.specs.declared.step.Step.{Step}
use Rattle.protocol.specs.declared.tables.Tables.{Tables}
use Rattle.protocol.specs.Messages.{doubled}
use Rattle.protocol.specs.Tables.{with_queue}
use Rattle.protocol.specs.Writes.{settled, write_staged, clock_staged}
use Rattle.protocol.specs.Server.{server_restarted}
use Rattle.protocol.specs.Gate.{known}
use Rattle.protocol.specs.Decide.{uncounted, counting, taken, performed}
use Rattle.protocol.proofs.Soundness.StepCases.{clock_performed, write_performed, lose_performed, double_performed, server_performed}

module _ (s : Setup) (c : Copy) (r : Request) (x : Step) (t u : Tables) where
  pub by_clock : (n : ℕ) → x.kind ≡ 1 → record { count = n; tables = u } ≡ settled s (clock_staged s t x.clock)
      → counting (record { count = n; tables = u }) ≡ performed s t c r x
  by_clock n k e = rw (clock_performed s t c r x k, ← e)

  pub by_write : (n : ℕ) → x.kind ≡ 4 → record { count = n; tables = u } ≡ settled s (write_staged s t x.object x.value)
      → counting (record { count = n; tables = u }) ≡ performed s t c r x
  by_write n k e = rw (write_performed s t c r x k, ← e)

  pub by_lose : x.kind ≡ 6 → u ≡ taken t x.place → counting (uncounted u) ≡ performed s t c r x
  by_lose k e = rw (lose_performed s t c r x k, e)

  pub by_double : x.kind ≡ 7 → u ≡ with_queue t (doubled t.queue x.place) → counting (uncounted u) ≡ performed s t c r x
  by_double k e = rw (double_performed s t c r x k, e)

  pub by_restart_server : x.kind ≡ 8 → u ≡ server_restarted s t → counting (uncounted u) ≡ performed s t c r x
  by_restart_server k e = rw (server_performed s t c r x k, e)

-- a kind of 01 is 1 to 9
pub known_bounds : (x : Step) → known x ≡ true → (1 ≤ x.kind) × (x.kind ≤ 9)
unfolding known
known_bounds x e = let b = and-true (leb 1 x.kind) (leb x.kind 9) e in (leb-true 1 x.kind b.0, leb-true x.kind 9 b.1)
