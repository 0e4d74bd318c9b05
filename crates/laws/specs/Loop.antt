-- A loop over the numbers j, j + 1, .., N - 1, as a definition, with the laws that its proof cites.
-- Each takes the first number and how many are left; the laws are stated at `N - j` left.
use Prim.Native.Nat.{ℕ, zero, suc, ◌+◌, ◌-◌, ◌<◌, ◌≤◌}
use Rattle.std.proofs.Math.Decide.{ℕ_discrete}
use Rattle.std.proofs.Common.{arith, sym, ◌∙◌}
use Rattle.std.specs.Prelude.{Bool, cond, ◌&&◌, ◌||◌, ◌≡◌}
use Rattle.std.proofs.Math.Bool.{true, false}
use Rattle.std.proofs.Math.Path.{refl}
use Rattle.laws.specs.Choice.{cond_keeps, and-true, or_false}

pub left_more : (N j : ℕ) → j < N → N - j ≡ suc (N - (j + 1))
left_more N j h = omega arith

pub left_none : (N j : ℕ) → N ≤ j → N - j ≡ 0
left_none N j h = omega arith

-- s after f at j, j + 1, .., n times
unfoldable pub fold_from {ℓ} : {S : Type ℓ} → (S → ℕ → S) → S → ℕ → ℕ → S
fold_from f s j zero = s
fold_from f s j (suc n) = fold_from f (f s j) (j + 1) n

-- whether p holds at some of the n numbers from j on
unfoldable pub any_from : (ℕ → Bool) → ℕ → ℕ → Bool
any_from p j zero = false
any_from p j (suc n) = p j || any_from p (j + 1) n

-- whether p holds at each of the n numbers from j on
unfoldable pub all_from : (ℕ → Bool) → ℕ → ℕ → Bool
all_from p j zero = true
all_from p j (suc n) = p j && all_from p (j + 1) n

-- two tests that agree at these numbers
pub all_same : (p q : ℕ → Bool) (j n : ℕ) → ((k : ℕ) → j ≤ k → k < j + n → p k ≡ q k) → all_from p j n ≡ all_from q j n
unfolding all_from
all_same p q j zero h = refl
all_same p q j (suc n) h = rw (h j (omega arith) (omega arith), all_same p q (j + 1) n (λ k a b. h k (omega arith) (omega arith)))

-- the first of the n numbers from j on at which p holds, else the number after them
unfoldable pub first_from : (ℕ → Bool) → ℕ → ℕ → ℕ
first_from p j zero = j
first_from p j (suc n) = cond (p j) j (first_from p (j + 1) n)

-- how many of the n numbers from j on p holds at
unfoldable pub count_from : (ℕ → Bool) → ℕ → ℕ → ℕ
count_from p j zero = 0
count_from p j (suc n) = cond (p j) 1 0 + count_from p (j + 1) n

module _ {ℓ} {S : Type ℓ} (f : S → ℕ → S) (N : ℕ) where
  fold_more : (s : S) (j : ℕ) → j < N → fold_from f (f s j) (j + 1) (N - (j + 1)) ≡ fold_from f s j (N - j)
  unfolding fold_from
  fold_more s j h = rw (left_more N j h)

  fold_none : (s : S) (j : ℕ) → N ≤ j → fold_from f s j (N - j) ≡ s
  unfolding fold_from
  fold_none s j h = rw (left_none N j h)

-- what every turn keeps, the whole keeps
pub fold_keeps {ℓ κ} : {S : Type ℓ} (P : S → Type κ) (f : S → ℕ → S) → ((s : S) (j : ℕ) → P s → P (f s j)) → (s : S) (j n : ℕ) → P s → P (fold_from f s j n)
unfolding fold_from
fold_keeps P f k s j zero p = p
fold_keeps P f k s j (suc n) p = fold_keeps P f k (f s j) (j + 1) n (k s j p)

-- the same where a turn needs that its number is one of the loop's
pub fold_keeps_in {ℓ κ} : {S : Type ℓ} (P : S → Type κ) (f : S → ℕ → S) (N : ℕ) → ((s : S) (j : ℕ) → j < N → P s → P (f s j))
    → (s : S) (j n : ℕ) → j + n ≤ N → P s → P (fold_from f s j n)
unfolding fold_from
fold_keeps_in P f N k s j zero h p = p
fold_keeps_in P f N k s j (suc n) h p = fold_keeps_in P f N k (f s j) (j + 1) n (omega arith) (k s j (omega arith) p)

-- what turn k brings about and every turn keeps, the whole brings about; R is what every turn keeps from the start
pub fold_reaches {ℓ κ} : {S : Type ℓ} (R P : S → Type κ) (f : S → ℕ → S) (N k : ℕ) → ((s : S) (j : ℕ) → j < N → R s → R (f s j)) → ((s : S) (j : ℕ) → j < N → R s → P s → P (f s j))
    → ((s : S) → R s → P (f s k)) → (s : S) (j n : ℕ) → j + n ≤ N → j ≤ k → k < j + n → R s → P (fold_from f s j n)
unfolding fold_from
fold_reaches R P f N k all keep hit s j zero h a b r = absurd (omega arith)
fold_reaches R P f N k all keep hit s j (suc n) h a b r =
    pick (λ g. fold_reaches R P f N k all keep hit (f s j) (j + 1) n (omega arith) g (omega arith) (all s j (omega arith) r)) (ℕ_discrete k j)
  where
    after : P (f s j) → P (fold_from f (f s j) (j + 1) n)
    after p =
        (fold_keeps_in (λ u. R u × P u) f N (λ u i b q. (all u i b q.0, keep u i b q.0 q.1)) (f s j) (j + 1) n (omega arith) (all s j (omega arith) r, p)).1

    pick : (j + 1 ≤ k → P (fold_from f (f s j) (j + 1) n)) → Dec (k ≡ j) → P (fold_from f (f s j) (j + 1) n)
    pick g (yes e) = after (rw e at (hit s r))
    pick g (no e) = g (omega arith)

module _ (p : ℕ → Bool) (N : ℕ) where
  all_none : (j : ℕ) → N ≤ j → all_from p j (N - j) ≡ true
  unfolding all_from
  all_none j h = rw (left_none N j h)

  first_hit : (j : ℕ) → j < N → p j ≡ true → first_from p j (N - j) ≡ j
  unfolding first_from
  first_hit j h e = rw (left_more N j h, e)

  first_miss : (j : ℕ) → j < N → p j ≡ false → first_from p (j + 1) (N - (j + 1)) ≡ first_from p j (N - j)
  unfolding first_from
  first_miss j h e = rw (left_more N j h, e)

  first_none : (j : ℕ) → N ≤ j → first_from p j (N - j) ≡ j
  unfolding first_from
  first_none j h = rw (left_none N j h)

-- Invariant of a scan that has come to j of N with `ok` so far: what is left gives, with the answer so far, what the whole loop gives.
abbrev pub Scanning : (ℕ → Bool) → ℕ → Bool → ℕ → Type 0
Scanning p N ok j = (j ≤ N) × ((ok && all_from p j (N - j)) ≡ all_from p 0 N)

-- The same laws in the form that `search` applies at a loop's needs: u is what the body's call gave, A what the loop has to come to.
pub fold_again {ℓ} : {S : Type ℓ} (f : S → ℕ → S) (N j : ℕ) (s u A : S) → j < N → u ≡ f s j → fold_from f s j (N - j) ≡ A → fold_from f u (j + 1) (N - (j + 1)) ≡ A
fold_again f N j s u A h e i = rw e (fold_more f N s j h ∙ i)

pub fold_end {ℓ} : {S : Type ℓ} (f : S → ℕ → S) (N j : ℕ) (s A : S) → N ≤ j → fold_from f s j (N - j) ≡ A → s ≡ A
fold_end f N j s A h i = sym (fold_none f N s j h) ∙ i

module _ (p : ℕ → Bool) (N j A : ℕ) where
  pub first_again : (r : Bool) → j < N → r ≡ p j → r ≡ false → first_from p j (N - j) ≡ A → first_from p (j + 1) (N - (j + 1)) ≡ A
  first_again r h e f i = first_miss p N j h (sym e ∙ f) ∙ i

  pub first_stop : (r : Bool) → j < N → r ≡ p j → r ≡ true → first_from p j (N - j) ≡ A → j ≡ A
  first_stop r h e f i = sym (first_hit p N j h (sym e ∙ f)) ∙ i

  pub first_end : N ≤ j → first_from p j (N - j) ≡ A → j ≡ A
  first_end h i = sym (first_none p N j h) ∙ i

-- a pass that carries the answer so far: the form of a loop `ok = ok & p(j)`
module _ (p : ℕ → Bool) (N j : ℕ) where
  all_step : j < N → (p j && all_from p (j + 1) (N - (j + 1))) ≡ all_from p j (N - j)
  unfolding all_from
  all_step h = rw (left_more N j h)

  all_again : (ok A : Bool) → j < N → (ok && all_from p j (N - j)) ≡ A → (ok && p j && all_from p (j + 1) (N - (j + 1))) ≡ A
  all_again true A h i = all_step h ∙ i
  all_again false A h i = i

  -- the same where a call gave r
  pub all_by : (ok r A : Bool) → j < N → r ≡ p j → (ok && all_from p j (N - j)) ≡ A → (ok && r && all_from p (j + 1) (N - (j + 1))) ≡ A
  all_by ok r A h e i = rw e (all_again ok A h i)

  pub all_end : (ok A : Bool) → N ≤ j → (ok && all_from p j (N - j)) ≡ A → ok ≡ A
  all_end true A h i = sym (all_none p N j h) ∙ i
  all_end false A h i = i

-- a number from j on is j, or one of those from j + 1 on
on_from : (p : ℕ → Bool) (b : Bool) (j k : ℕ) → j ≤ k → p j ≡ b → (j + 1 ≤ k → p k ≡ b) → p k ≡ b
on_from p b j k g q r = pick (ℕ_discrete k j)
  where
    pick : Dec (k ≡ j) → p k ≡ b
    pick (yes f) = rw f q
    pick (no f) = r (omega arith)

-- what a test of all numbers says of each, and back
module _ (p : ℕ → Bool) where
  all_true : (j n : ℕ) → all_from p j n ≡ true → (k : ℕ) → j ≤ k → k < j + n → p k ≡ true
  unfolding all_from
  all_true j zero e k g h = absurd (omega arith)
  all_true j (suc n) e k g h =
      let w = and-true (p j) (all_from p (j + 1) n) e in
      on_from p true j k g w.0 (λ f. all_true (j + 1) n w.1 k f (omega arith))

  pub all_each : (n : ℕ) → all_from p 0 n ≡ true → (k : ℕ) → k < n → p k ≡ true
  all_each n e k h = all_true 0 n e k (omega arith) (omega arith)

  all_from_law : (j n : ℕ) → ((k : ℕ) → j ≤ k → k < j + n → p k ≡ true) → all_from p j n ≡ true
  unfolding all_from
  all_from_law j zero f = refl
  all_from_law j (suc n) f = rw (f j (omega arith) (omega arith), all_from_law (j + 1) n (λ k g h. f k (omega arith) (omega arith)))

  pub all_of : (n : ℕ) → ((k : ℕ) → k < n → p k ≡ true) → all_from p 0 n ≡ true
  all_of n f = all_from_law 0 n (λ k g h. f k (omega arith))

  any_false : (j n : ℕ) → any_from p j n ≡ false → (k : ℕ) → j ≤ k → k < j + n → p k ≡ false
  unfolding any_from
  any_false j zero e k g h = absurd (omega arith)
  any_false j (suc n) e k g h =
      let w = or_false (p j) (any_from p (j + 1) n) e in
      on_from p false j k g w.0 (λ f. any_false (j + 1) n w.1 k f (omega arith))

  -- a test of any that fails says that each fails
  pub none_each : (n : ℕ) → any_from p 0 n ≡ false → (k : ℕ) → k < n → p k ≡ false
  none_each n e k h = any_false 0 n e k (omega arith) (omega arith)

-- what the first number says of the test: it holds there, or nowhere
module _ (p : ℕ → Bool) where
  pub first_found : (j n : ℕ) → first_from p j n < j + n → p (first_from p j n) ≡ true
  unfolding first_from
  first_found j zero h = absurd (omega arith)
  first_found j (suc n) h =
      cond_keeps (λ (k : ℕ). k < j + suc n → p k ≡ true) (p j) (λ e _. e) (λ e k. first_found (j + 1) n (omega arith)) h

  pub first_missing : (j n : ℕ) → j + n ≤ first_from p j n → (k : ℕ) → j ≤ k → k < j + n → p k ≡ false
  unfolding first_from
  first_missing j zero h k a b = absurd (omega arith)
  first_missing j (suc n) h k a b =
      cond_keeps (λ (i : ℕ). j + suc n ≤ i → p k ≡ false) (p j) (λ e i. absurd (omega arith))
      (λ e i. on_from p false j k a e (λ u. first_missing (j + 1) n (omega arith) k u (omega arith))) h
