-- Counting the numbers that a test holds at, and a loop whose invariant says how far it has come.
use Rattle.std.specs.Prelude.{ℕ, zero, suc, ◌+◌, ◌<◌, ◌≤◌, Bool, true, false, cond, ◌≡◌, refl}
use Rattle.std.proofs.Math.Decide.{ℕ_discrete}
use Rattle.std.proofs.Common.{arith}
use Rattle.laws.specs.Loop.{fold_from, count_from}

-- what a turn carries from j to j + 1, the loop carries from its first number to the number after its last
pub fold_carries {ℓ κ} : {S : Type ℓ} (P : ℕ → S → Type κ) (f : S → ℕ → S) (N : ℕ) → ((s : S) (j : ℕ) → j < N → P j s → P (j + 1) (f s j))
    → (s : S) (j n : ℕ) → j + n ≡ N → P j s → P N (fold_from f s j n)
unfolding fold_from
fold_carries P f N k s j zero e p =
    let h : j ≡ N = omega arith in
    rw h at p
fold_carries P f N k s j (suc n) e p = fold_carries P f N k (f s j) (j + 1) n (omega arith) (k s j (omega arith) p)

-- two tests that agree on the numbers counted
pub count_same : (p q : ℕ → Bool) (j n : ℕ) → ((k : ℕ) → j ≤ k → k < j + n → p k ≡ q k) → count_from p j n ≡ count_from q j n
unfolding count_from
count_same p q j zero h = refl
count_same p q j (suc n) h = rw (h j (omega arith) (omega arith), count_same p q (j + 1) n (λ k a b. h k (omega arith) (omega arith)))

pub count_none : (p : ℕ → Bool) (j n : ℕ) → ((k : ℕ) → j ≤ k → k < j + n → p k ≡ false) → count_from p j n ≡ 0
unfolding count_from
count_none p j zero h = refl
count_none p j (suc n) h = rw (h j (omega arith) (omega arith), count_none p (j + 1) n (λ k a b. h k (omega arith) (omega arith)))

-- two tests that differ at one number
count_step : (p q : ℕ → Bool) (o : ℕ) → p o ≡ true → q o ≡ false → ((k : ℕ) → (k ≡ o → ⊥) → p k ≡ q k) → (j n : ℕ) → j ≤ o → o < j + n
    → count_from p j n ≡ suc (count_from q j n)
unfolding count_from
count_step p q o a b h j zero g i = absurd (omega arith)
count_step p q o a b h j (suc n) g i = pick (λ f. count_step p q o a b h (j + 1) n f (omega arith)) (ℕ_discrete j o)
  where
    rest : j ≡ o → count_from p (j + 1) n ≡ count_from q (j + 1) n
    rest e = count_same p q (j + 1) n (λ k c d. h k (λ f. omega arith))

    one_more : (x y : Bool) → x ≡ true → y ≡ false → (c d : ℕ) → c ≡ d → cond x 1 0 + c ≡ suc (cond y 1 0 + d)
    one_more x y r u c d w = rw (r, u) (omega arith)

    alike : (x y : Bool) → x ≡ y → (c d : ℕ) → c ≡ suc d → cond x 1 0 + c ≡ suc (cond y 1 0 + d)
    alike x y r c d w = rw r (omega arith)

    pick : (j + 1 ≤ o → count_from p (j + 1) n ≡ suc (count_from q (j + 1) n)) → Dec (j ≡ o)
        → cond (p j) 1 0 + count_from p (j + 1) n ≡ suc (cond (q j) 1 0 + count_from q (j + 1) n)
    pick r (yes e) = one_more (p j) (q j) (rw e a) (rw e b) _ _ (rest e)
    pick r (no e) = alike (p j) (q j) (h j e) _ _ (r (omega arith))

pub count_less : (p q : ℕ → Bool) (o n : ℕ) → o < n → p o ≡ true → q o ≡ false → ((k : ℕ) → (k ≡ o → ⊥) → p k ≡ q k) → count_from p 0 n ≡ suc (count_from q 0 n)
count_less p q o n i a b h = count_step p q o a b h 0 n (omega arith) (omega arith)
