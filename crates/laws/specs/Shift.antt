-- Numbers moved forward in a list, or in one of its fields, so that a gap closes.
use Prim.Native.Nat.{ℕ, zero, suc, ◌+◌, ◌-◌, ◌<◌, ◌≤◌}
use Rattle.std.proofs.Common.{arith, ap, ◌∙◌, get_or-set_other}
use Rattle.std.specs.Prelude.{Bool, List, ◌≡◌, length, get_or, set}
use Rattle.std.proofs.Math.Path.{refl}
use Rattle.laws.specs.Loop.{fold_from, fold_again}
use Rattle.laws.specs.Store.{store_at, store_each, always, store_hit, store_other}
use Rattle.laws.specs.Parts.{start, size, parts, with_part, part_at, stored_each}

-- the n numbers from `from` on become those `wide` places further on
abbrev pub shifted : ℕ → ℕ → ℕ → List ℕ → List ℕ
shifted from n wide l = store_each always (λ (j : ℕ). from + j) (λ (j : ℕ). get_or l (from + j + wide) 0) l n

module _ (from n wide : ℕ) (l : List ℕ) where
  pub shifted_before : (q : ℕ) → q < from → get_or (shifted from n wide l) q 0 ≡ get_or l q 0
  shifted_before q h = store_other always (λ (j : ℕ). from + j) (λ (j : ℕ). get_or l (from + j + wide) 0) l n q 0 (λ k a b c. omega arith)

  pub shifted_in : (q : ℕ) → from ≤ q → q < from + n → from + n ≤ length l → get_or (shifted from n wide l) q 0 ≡ get_or l (q + wide) 0
  shifted_in q h k e =
      let z : q ≡ from + (q - from) = omega arith in
      rw z (store_hit always (λ (j : ℕ). from + j) (λ (j : ℕ). get_or l (from + j + wide) 0) (λ a b c. omega arith) l n (q - from) 0 (omega arith) refl (omega arith))

-- the same in a field of a longer list
abbrev pub shifting : ℕ → ℕ → ℕ → ℕ → List ℕ → List ℕ
shifting field from n wide w = store_each always (λ (j : ℕ). field + (from + j)) (λ (j : ℕ). get_or w (field + (from + j + wide)) 0) w n

-- stores of the same elements
module _ {A : Type 0} (p : ℕ → Bool) (f : ℕ → ℕ) (g h : ℕ → A) where
  from_ext : (l : List A) (d n : ℕ) → ((k : ℕ) → d ≤ k → k < d + n → g k ≡ h k) → fold_from (store_at p f g) l d n ≡ fold_from (store_at p f h) l d n
  unfolding fold_from
  from_ext l d zero e = refl
  from_ext l d (suc n) e = rw (e d (omega arith) (omega arith)) (from_ext (store_at p f h l d) (d + 1) n (λ k a b. e k (omega arith) (omega arith)))

  store_ext : (l : List A) (n : ℕ) → ((k : ℕ) → k < n → g k ≡ h k) → store_each p f g l n ≡ store_each p f h l n
  unfolding store_each
  store_ext l n e = from_ext l 0 n (λ k a b. e k (omega arith))

pub shifts : (z w : List ℕ) (k from n wide : ℕ) → from + n + wide ≤ size z k
    → parts z (shifting (start z k) from n wide w) ≡ with_part (parts z w) k (shifted from n wide (parts z w k))
shifts z w k from n wide h =
    stored_each z k always (λ (j : ℕ). from + j) (λ (j : ℕ). get_or w (start z k + (from + j + wide)) 0) n (λ d a. omega arith) w
    ∙ ap (with_part (parts z w) k) (store_ext always (λ (j : ℕ). from + j) (λ (j : ℕ). get_or w (start z k + (from + j + wide)) 0) (λ (j : ℕ). get_or (parts z w k) (from + j + wide) 0) (parts z w k) n (λ d a. part_at z w k (from + d + wide) (omega arith)))

-- from place p on nothing has changed: what a pass keeps that reads ahead of its stores
pub record Above (w₀ w : List ℕ) (p : ℕ) : Type 0 where
  pub same : (q : ℕ) → p ≤ q → get_or w q 0 ≡ get_or w₀ q 0

pub shift_keeps : (w₀ w : List ℕ) (field from j y : ℕ) → Above w₀ w (field + (from + j)) → Above w₀ (set w (field + (from + j)) y) (field + (from + (j + 1)))
shift_keeps w₀ w field from j y a = record { same = λ q k. get_or-set_other w (field + (from + j)) q y 0 (λ e. omega arith) ∙ a.same q (omega arith) }

pub shift_again : (w₀ w : List ℕ) (field from n wide j : ℕ) → j < n → Above w₀ w (field + (from + j)) → (A : List ℕ)
    → fold_from (store_at always (λ (j : ℕ). field + (from + j)) (λ (j : ℕ). get_or w₀ (field + (from + j + wide)) 0)) w j (n - j) ≡ A
    → fold_from (store_at always (λ (j : ℕ). field + (from + j)) (λ (j : ℕ). get_or w₀ (field + (from + j + wide)) 0)) (set w (field + (from + j)) (get_or w (field + (from + j + wide)) 0)) (j + 1) (n - (j + 1)) ≡ A
shift_again w₀ w field from n wide j h a A f =
    fold_again (store_at always (λ (j : ℕ). field + (from + j)) (λ (j : ℕ). get_or w₀ (field + (from + j + wide)) 0)) n j w _ A h
    (ap (set w (field + (from + j))) (a.same (field + (from + j + wide)) (omega arith))) f
