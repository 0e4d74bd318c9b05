-- The greatest of several numbers, found in one pass.
-- a is the number to start with, b a bound; p says which numbers k count, and f k is what k brings.
use Rattle.std.specs.Prelude.{ℕ, ◌<◌, ◌≤◌, max, Bool, true, cond, ◌⊎◌, ◌≡◌}
use Rattle.std.proofs.Common.{arith, inl, inr, ⊎_elim, sym, ◌∙◌}
use Rattle.laws.specs.Choice.{cond_keeps}
use Rattle.laws.specs.Loop.{fold_from, fold_keeps_in, fold_reaches}

module _ (p : ℕ → Bool) (f : ℕ → ℕ) where
  -- one turn
  abbrev pub raise_to : ℕ → ℕ → ℕ
  raise_to a k = cond (p k) (max a (f k)) a

  -- the greatest of a and, over the numbers k below n that p lets through, f k
  unfoldable pub greatest : ℕ → ℕ → ℕ
  greatest a n = fold_from raise_to a 0 n

  raised : (a b k : ℕ) → b ≤ a → b ≤ raise_to a k
  raised a b k h = cond_keeps (λ (e : ℕ). b ≤ e) (p k) (λ _. omega arith) (λ _. h)

  -- no less than what it starts with, nor than what a number that counts brings
  pub greatest_start : (a b n : ℕ) → b ≤ a → b ≤ greatest a n
  unfolding greatest
  greatest_start a b n h = fold_keeps_in (λ (e : ℕ). b ≤ e) raise_to n (λ e k _ i. raised e b k i) a 0 n (omega arith) h

  pub greatest_each : (a n k : ℕ) → k < n → p k ≡ true → f k ≤ greatest a n
  unfolding greatest
  greatest_each a n k h t =
      fold_reaches (λ _. Unit {0}) (λ (e : ℕ). f k ≤ e) raise_to n k (λ e j _ _. tt) (λ e j _ _ i. raised e (f k) j i) (λ e _. rw t (omega arith)) a 0 n (omega arith) (omega arith) (omega arith) tt

  -- no bound of them all is below it
  pub greatest_least : (a b n : ℕ) → a ≤ b → ((k : ℕ) → k < n → p k ≡ true → f k ≤ b) → greatest a n ≤ b
  unfolding greatest
  greatest_least a b n h each =
      fold_keeps_in (λ (e : ℕ). e ≤ b) raise_to n (λ e k l i. cond_keeps (λ (x : ℕ). x ≤ b) (p k) (λ t. omega (arith, each k l t)) (λ _. i)) a 0 n (omega arith) h

-- tests find the same where they differ only on numbers that bring no more than a
module _ (f : ℕ → ℕ) (a n : ℕ) where
  no_less : (p q : ℕ → Bool) → ((k : ℕ) → k < n → (p k ≡ q k) ⊎ (f k ≤ a)) → greatest p f a n ≤ greatest q f a n
  no_less p q e =
      greatest_least p f a _ n (greatest_start q f a a n (omega arith))
      (λ k h t. ⊎_elim (λ s. greatest_each q f a n k h (sym s ∙ t)) (greatest_start q f a (f k) n) (e k h))

  pub greatest_same : (p q : ℕ → Bool) → ((k : ℕ) → k < n → (p k ≡ q k) ⊎ (f k ≤ a)) → greatest p f a n ≡ greatest q f a n
  greatest_same p q e = omega (arith, no_less p q e, no_less q p (λ k h. ⊎_elim (λ s. inl (sym s)) inr (e k h)))
