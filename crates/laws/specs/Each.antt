-- What holds of each element of a table, and stores that keep it.
use Prim.Native.Nat.{ℕ, zero, suc, ◌<◌}
use Rattle.std.proofs.Common.{arith}
use Rattle.std.specs.Prelude.{Bool, ◌≡◌, refl, length, get_or, set, replicate}
use mathlib.Core.List.{List, [], ◌∷◌}
use Rattle.laws.specs.Choice.{cond_keeps}
use Rattle.laws.specs.Loop.{fold_keeps_in}
use Rattle.laws.specs.Lists.{All}
use Rattle.laws.specs.Store.{store_at, store_each}

module _ {ℓ κ} {A : Type ℓ} (P : A → Type κ) where
  -- a store outside the list stores nothing, so that P is asked of the new element only inside
  pub each_set_in : (l : List A) (i : ℕ) (a : A) → All P l → (i < length l → P a) → All P (set l i a)
  unfolding All
  each_set_in [] i a h p = tt
  each_set_in (x ∷ l) zero a h p = (p (omega arith), h.1)
  each_set_in (x ∷ l) (suc i) a h p = (h.0, each_set_in l i a h.1 (λ k. p (omega arith)))

  pub each_set : (l : List A) (i : ℕ) (a : A) → All P l → P a → All P (set l i a)
  each_set l i a h p = each_set_in l i a h (λ k. p)

  -- an element, or the default past the end
  pub each_get_d : (l : List A) (i : ℕ) (d : A) → All P l → P d → P (get_or l i d)
  unfolding All
  each_get_d [] i d h p = p
  each_get_d (x ∷ l) zero d h p = h.0
  each_get_d (x ∷ l) (suc i) d h p = each_get_d l i d h.1 p

  pub each_replicate : (n : ℕ) (a : A) → P a → All P (replicate n a)
  unfolding All
  each_replicate zero a p = tt
  each_replicate (suc n) a p = (p, each_replicate n a p)

  pub each_store : (q : ℕ → Bool) (f : ℕ → ℕ) (g : ℕ → A) (l : List A) (n : ℕ) → All P l → ((k : ℕ) → k < n → P (g k)) → All P (store_each q f g l n)
  unfolding store_each
  each_store q f g l n h p =
      fold_keeps_in (All P) (store_at q f g) n
      (λ m k b i. cond_keeps (All P) (q k) (λ e. each_set m (f k) (g k) i (p k b)) (λ e. i))
      l 0 n (omega arith) h

-- where the default was stored it is read, in the list or past its end
pub cleared {ℓ} : {A : Type ℓ} (l : List A) (i : ℕ) {d : A} → get_or (set l i d) i d ≡ d
cleared [] i = refl
cleared (x ∷ l) zero = refl
cleared (x ∷ l) (suc i) = cleared l i

-- a list of one element over and over reads as that element everywhere
pub replicate_at {ℓ} : {A : Type ℓ} (n i : ℕ) (a : A) → get_or (replicate n a) i a ≡ a
replicate_at zero i a = refl
replicate_at (suc n) zero a = refl
replicate_at (suc n) (suc i) a = replicate_at n i a
