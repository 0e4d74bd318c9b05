-- The tests of time. Whoever proves something about leases uses these names and their laws alone.
use Rattle.std.specs.Prelude.{ℕ, ◌<◌, ◌≤◌, true, false, ◌≡◌}
use Rattle.std.proofs.Common.{arith, ltb-true, ltb-false}
use Rattle.protocol.specs.Leases.{end_over}

-- its two laws: over is what is past its latest end, and nothing that is past it is not over
pub over_past : (clock end : ℕ) → end_over clock end ≡ true → end < clock
unfolding end_over
over_past clock end e = omega (arith, ltb-true)

pub not_over : (clock end : ℕ) → end_over clock end ≡ false → clock ≤ end
unfolding end_over
not_over clock end e = omega (arith, ltb-false)
