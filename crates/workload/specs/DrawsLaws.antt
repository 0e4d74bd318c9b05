-- Bounds on the numbers of a drawn step.
use Rattle.std.specs.Prelude.{ℕ, ◌+◌, ◌≤◌}
use Rattle.std.proofs.Common.{arith}
use Rattle.laws.specs.Choice.{cond_keeps}
use Rattle.protocol.specs.declared.setup.Setup.{Setup}
use Rattle.protocol.specs.Gate.{is_clock, is_write}
use Rattle.workload.specs.Draws.{fields_drawn, only_used, drawn_step, total_after}

-- The clock is at most 4 more than the total before it, the value is at most 4, and the total grows by at most 4.
module _ (q : Setup) (s total : ℕ) where
  pub clock_near : (drawn_step q s total).clock ≤ total + 4
  unfolding only_used fields_drawn
  clock_near = cond_keeps (λ (n : ℕ). n ≤ total + 4) (is_clock (fields_drawn q s total)) (λ _. omega arith) (λ _. omega arith)

  pub value_small : (drawn_step q s total).value ≤ 4
  unfolding only_used fields_drawn
  value_small = cond_keeps (λ (n : ℕ). n ≤ 4) (is_write (fields_drawn q s total)) (λ _. omega arith) (λ _. omega arith)

  pub total_near : total_after (drawn_step q s total) total ≤ total + 4
  unfolding total_after
  total_near = cond_keeps (λ (n : ℕ). n ≤ total + 4) (is_clock (drawn_step q s total)) (λ _. clock_near) (λ _. omega arith)
