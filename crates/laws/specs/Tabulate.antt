-- Lists that a function fills place by place.
use Prim.Native.Nat.{ℕ, zero, suc, ◌+◌, ◌<◌, ◌≤◌}
use native.Mathlib.Omega.{arith}
use Rattle.std.specs.Prelude.{List, [], ◌∷◌, ◌++◌, ◌≡◌, length, get_or, set, replicate}
use Rattle.std.proofs.Math.Path.{refl, ap}
use Rattle.std.proofs.Common.{◌∙◌}
use Rattle.laws.specs.Lists.{remove_at, All}

module _ {A : Type 0} where
  -- f i, f (i + 1), .. : n of them
  unfoldable pub tabulate : (ℕ → A) → ℕ → ℕ → List A
  tabulate f i zero = []
  tabulate f i (suc n) = f i ∷ tabulate f (i + 1) n

  tabulate_from : (f : ℕ → A) (b n i : ℕ) (d : A) → i < n → get_or (tabulate f b n) i d ≡ f (b + i)
  unfolding tabulate
  tabulate_from f b zero i d h = absurd (omega arith)
  tabulate_from f b (suc n) zero d h = ap f (omega arith)
  tabulate_from f b (suc n) (suc i) d h = tabulate_from f (b + 1) n i d (omega arith) ∙ ap f (omega arith)

  pub tabulate_at : (f : ℕ → A) (n i : ℕ) (d : A) → i < n → get_or (tabulate f 0 n) i d ≡ f i
  tabulate_at f n i d h = tabulate_from f 0 n i d h ∙ ap f (omega arith)

  pub tabulate_past : (f : ℕ → A) (b n i : ℕ) (d : A) → n ≤ i → get_or (tabulate f b n) i d ≡ d
  unfolding tabulate
  tabulate_past f b zero i d h = refl
  tabulate_past f b (suc n) zero d h = absurd (omega arith)
  tabulate_past f b (suc n) (suc i) d h = tabulate_past f (b + 1) n i d (omega arith)

  pub tabulate_one : (f : ℕ → A) (a : A) (b n : ℕ) → ((j : ℕ) → b ≤ j → j < b + n → f j ≡ a) → tabulate f b n ≡ replicate n a
  unfolding tabulate
  tabulate_one f a b zero h = refl
  tabulate_one f a b (suc n) h = rw (h b (omega arith) (omega arith)) (ap (◌∷◌ a) (tabulate_one f a (b + 1) n (λ j k l. h j (omega arith) (omega arith))))

  pub length_tabulate : (f : ℕ → A) (b n : ℕ) → length (tabulate f b n) ≡ n
  unfolding tabulate
  length_tabulate f b zero = refl
  length_tabulate f b (suc n) = ap suc (length_tabulate f (b + 1) n)

  -- what holds at each number holds of each element
  pub all_tabulate {κ} : (P : A → Type κ) (f : ℕ → A) (b n : ℕ) → ((k : ℕ) → b ≤ k → k < b + n → P (f k)) → All P (tabulate f b n)
  unfolding tabulate All
  all_tabulate P f b zero h = tt
  all_tabulate P f b (suc n) h = (h b (omega arith) (omega arith), all_tabulate P f (b + 1) n (λ k g l. h k (omega arith) (omega arith)))

  -- one more at the end
  pub tabulate_more : (f : ℕ → A) (b n : ℕ) → tabulate f b (suc n) ≡ tabulate f b n ++ (f (b + n) ∷ [])
  unfolding tabulate
  tabulate_more f b zero =
      let e : b + 0 ≡ b = omega arith in
      rw e
  tabulate_more f b (suc n) =
      let e : (b + 1) + n ≡ b + suc n = omega arith in
      ap (◌∷◌ (f b)) (rw (← e) (tabulate_more f (b + 1) n))

  module _ (f g : ℕ → A) where
    pub tabulate_same : (b n : ℕ) → ((j : ℕ) → b ≤ j → j < b + n → g j ≡ f j) → tabulate g b n ≡ tabulate f b n
    unfolding tabulate
    tabulate_same b zero h = refl
    tabulate_same b (suc n) h =
        rw (h b (omega arith) (omega arith)) (ap (◌∷◌ (f b)) (tabulate_same (b + 1) n (λ j k l. h j (omega arith) (omega arith))))

    set_from : (m : A) (b n k : ℕ) → k < n → ((j : ℕ) → b ≤ j → j < b + n → (j ≡ b + k → ⊥) → g j ≡ f j) → g (b + k) ≡ m → tabulate g b n ≡ set (tabulate f b n) k m
    unfolding tabulate
    set_from m b zero k h s e = absurd (omega arith)
    set_from m b (suc n) zero h s e =
        let z : b + 0 ≡ b = omega arith in
        rw (← z, e) (rw z (ap (◌∷◌ m) (tabulate_same (b + 1) n (λ j k l. s j (omega arith) (omega arith) (λ q. omega arith)))))
    set_from m b (suc n) (suc k) h s e =
        let z : (b + 1) + k ≡ b + suc k = omega arith in
        rw (s b (omega arith) (omega arith) (λ q. omega arith))
        (ap (◌∷◌ (f b)) (set_from m (b + 1) n k (omega arith) (λ j a c q. s j (omega arith) (omega arith) (λ r. q (omega arith))) (rw z e)))

    -- g is f but for one place
    pub tabulate_set : (m : A) (n k : ℕ) → k < n → ((j : ℕ) → j < n → (j ≡ k → ⊥) → g j ≡ f j) → g k ≡ m → tabulate g 0 n ≡ set (tabulate f 0 n) k m
    tabulate_set m n k h s e =
        let z : 0 + k ≡ k = omega arith in
        set_from m 0 n k h (λ j a b q. s j (omega arith) (λ r. q (omega arith))) (rw z e)

    close_front : (b n : ℕ) → ((j : ℕ) → b ≤ j → j ≤ b + n → g j ≡ f (j + 1)) → tabulate g b (suc n) ≡ tabulate f (b + 1) n ++ (f (b + suc n) ∷ [])
    unfolding tabulate
    close_front b zero h = rw (h b (omega arith) (omega arith)) refl
    close_front b (suc n) h =
        let z : (b + 1) + suc n ≡ b + suc (suc n) = omega arith in
        rw (h b (omega arith) (omega arith)) (ap (◌∷◌ (f (b + 1))) (rw (← z) (close_front (b + 1) n (λ j k l. h j (omega arith) (omega arith)))))

    -- g is f without place k
    pub tabulate_remove : (b n k : ℕ) → k ≤ n → ((j : ℕ) → b ≤ j → j < b + k → g j ≡ f j) → ((j : ℕ) → b + k ≤ j → j ≤ b + n → g j ≡ f (j + 1))
        → tabulate g b (suc n) ≡ remove_at (tabulate f b (suc n)) k ++ (f (b + suc n) ∷ [])
    unfolding tabulate remove_at
    tabulate_remove b n zero h s e = close_front b n (λ j k l. e j (omega arith) l)
    tabulate_remove b zero (suc k) h s e = absurd (omega arith)
    tabulate_remove b (suc n) (suc k) h s e =
        let z : (b + 1) + suc n ≡ b + suc (suc n) = omega arith in
        rw (s b (omega arith) (omega arith))
        (ap (◌∷◌ (f b)) (rw (← z) (tabulate_remove (b + 1) n k (omega arith) (λ j p q. s j (omega arith) (omega arith)) (λ j p q. e j (omega arith) (omega arith)))))
