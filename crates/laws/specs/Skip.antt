-- A pass that goes from one number at which there is something to do to the next, as `first_from` finds them.
use Prim.Native.Nat.{ℕ, zero, suc, ◌+◌, ◌-◌, ◌<◌, ◌≤◌}
use native.Mathlib.Omega.{arith}
use Rattle.std.specs.Prelude.{Bool, true, false, cond, ◌||◌, ◌⊎◌, ◌≡◌, ltb}
use Rattle.std.proofs.Common.{inl, inr, sym, ◌∙◌}
use borrow.Author.Tests.{lt-ltb, le-ltb}
use Rattle.laws.specs.Choice.{true_or_false}
use Rattle.laws.specs.Loop.{fold_from, first_from, any_from, first_stop, first_end, first_found}

module _ (p : ℕ → Bool) where
  -- some number passes where the first one that does is one of them
  any_first : (j n : ℕ) → ltb (first_from p j n) (j + n) ≡ any_from p j n
  unfolding first_from any_from
  any_first j zero = le-ltb j (j + 0) (omega arith)
  any_first j (suc n) = pick (any_first (j + 1) n) (true_or_false (p j))
    where
      same : j + suc n ≡ (j + 1) + n
      same = omega arith

      pick : ltb (first_from p (j + 1) n) ((j + 1) + n) ≡ any_from p (j + 1) n → (p j ≡ true) ⊎ (p j ≡ false)
          → ltb (cond (p j) j (first_from p (j + 1) n)) (j + suc n) ≡ p j || any_from p (j + 1) n
      pick r (inl e) = rw e (lt-ltb j (j + suc n) (omega arith))
      pick r (inr e) = rw (e, same) r

  -- what is found among the N - j numbers left
  module _ (N j k : ℕ) (l : j ≤ N) (f : k ≡ first_from p j (N - j)) where
    whole : j + (N - j) ≡ N
    whole = omega arith

    pub first_is : k < N → p k ≡ true
    first_is h = rw f (first_found p j (N - j) (rw (whole, ← f) h))

  pub first_any : (N : ℕ) → ltb (first_from p 0 N) N ≡ any_from p 0 N
  first_any N = rw same at (any_first 0 N)
    where
      same : 0 + N ≡ N
      same = omega arith

-- a turn at a number that does not pass changes nothing
module _ {ℓ} {S : Type ℓ} (F : S → ℕ → S) (p : S → ℕ → Bool) (still : (s : S) (j : ℕ) → p s j ≡ false → F s j ≡ s) where
  skip : (s : S) (j n : ℕ) → fold_from F s j n ≡ fold_from F s (first_from (p s) j n) (j + n - first_from (p s) j n)
  unfolding fold_from first_from
  skip s j zero = rw none
    where
      none : j + 0 - j ≡ 0
      none = omega arith
  skip s j (suc n) = pick (skip s (j + 1) n) (true_or_false (p s j))
    where
      all : j + suc n - j ≡ suc n
      all = omega arith

      less : j + suc n ≡ (j + 1) + n
      less = omega arith

      pick : fold_from F s (j + 1) n ≡ fold_from F s (first_from (p s) (j + 1) n) ((j + 1) + n - first_from (p s) (j + 1) n)
          → (p s j ≡ true) ⊎ (p s j ≡ false)
          → fold_from F (F s j) (j + 1) n
          ≡ fold_from F s (cond (p s j) j (first_from (p s) (j + 1) n)) (j + suc n - cond (p s j) j (first_from (p s) (j + 1) n))
      pick r (inl e) = rw (e, all)
      pick r (inr e) = rw (e, still s j e, less) r

  -- on to the first number that passes
  pub fold_skip : (N j k : ℕ) (s A : S) → j ≤ N → k ≡ first_from (p s) j (N - j) → fold_from F s j (N - j) ≡ A → fold_from F s k (N - k) ≡ A
  fold_skip N j k s A l f i = sym (rw (whole, ← f) at (skip s j (N - j))) ∙ i
    where
      whole : j + (N - j) ≡ N
      whole = omega arith

-- r is the first number from `from` on, and below n, that passes; n where there is none
pub record Found (p : ℕ → Bool) (from n r : ℕ) : Type 0 where
  pub is : r ≡ first_from p from (n - from)
  pub low : from ≤ r
  pub high : r ≤ n

-- a search for it stops, or comes to its end
module _ (p : ℕ → Bool) (n j from : ℕ) where
  pub found_stop : (r : Bool) → from ≤ j → j < n → r ≡ p j → r ≡ true → first_from p j (n - j) ≡ first_from p from (n - from) → Found p from n j
  found_stop r l h e f i = record { is = first_stop p n j (first_from p from (n - from)) r h e f i; low = l; high = omega arith }

  pub found_end : from ≤ j → j ≤ n → n ≤ j → first_from p j (n - j) ≡ first_from p from (n - from) → Found p from n j
  found_end l k h i = record { is = first_end p n j (first_from p from (n - from)) h i; low = l; high = k }
