-- The first number that passes a test, from what is known of it and of those before it.
use Prim.Native.Nat.{ℕ, zero, suc, ◌+◌, ◌<◌, ◌≤◌}
use native.Mathlib.Omega.{arith}
use Rattle.std.specs.Prelude.{Bool, true, false, ◌⊎◌, ◌≡◌}
use Rattle.std.proofs.Math.Bool.{cond}
use Rattle.std.proofs.Common.{inl, inr}
use Rattle.laws.specs.Choice.{same?}
use Rattle.laws.specs.Loop.{first_from}

module _ (p : ℕ → Bool) where
  pub first_known : (j n k : ℕ) → j ≤ k → k < j + n → p k ≡ true → ((i : ℕ) → j ≤ i → i < k → p i ≡ false) → first_from p j n ≡ k
  unfolding first_from
  first_known j zero k a b e none = absurd (omega arith)
  first_known j (suc n) k a b e none = pick (λ f. first_known (j + 1) n k f (omega arith) e (λ i c. none i (omega arith))) (same? j k)
    where
      pick : (j + 1 ≤ k → first_from p (j + 1) n ≡ k) → (j ≡ k) ⊎ (j ≡ k → ⊥) → cond (p j) j (first_from p (j + 1) n) ≡ k
      pick r (inl q) = rw (q, e)
      pick r (inr q) = rw (none j (omega arith) (omega arith)) (r (omega arith))

  pub first_nothing : (j n : ℕ) → ((i : ℕ) → j ≤ i → i < j + n → p i ≡ false) → first_from p j n ≡ j + n
  unfolding first_from
  first_nothing j zero none = omega arith
  first_nothing j (suc n) none = rw (none j (omega arith) (omega arith)) (omega (arith, first_nothing (j + 1) n (λ i a b. none i (omega arith) (omega arith))))
