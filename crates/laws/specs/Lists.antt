-- Lists: one element taken out, and what holds of each element.
use Prim.Native.Nat.{ℕ, zero, suc, ◌<◌}
use Rattle.std.proofs.Common.{not-suc-le-zero, le_of_suc-le-suc, arith, ◌∙◌, length-append}
use mathlib.Core.List.{List, [], ◌∷◌, ◌++◌}
use Rattle.std.specs.Prelude.{◌≡◌, length, get_or}
use Rattle.std.proofs.Math.Path.{refl, ap}

module _ {ℓ} {A : Type ℓ} where
  unfoldable pub remove_at : List A → ℕ → List A
  remove_at [] i = []
  remove_at (x ∷ l) zero = l
  remove_at (x ∷ l) (suc i) = x ∷ remove_at l i

  pub length_removed : (l : List A) (i : ℕ) → i < length l → suc (length (remove_at l i)) ≡ length l
  unfolding remove_at
  length_removed [] i h = absurd (omega arith)
  length_removed (x ∷ l) zero h = refl
  length_removed (x ∷ l) (suc i) h = ap suc (length_removed l i (le_of_suc-le-suc h))

  -- a removal that fills up at the end keeps the length
  pub length_remove : (b : A) (l : List A) (i : ℕ) → i < length l → length (remove_at l i ++ (b ∷ [])) ≡ length l
  length_remove b l i h = length-append (remove_at l i) (b ∷ []) ∙ omega (arith, length_removed l i h)

-- what holds of each element of a list
unfoldable pub All {ℓ κ} : {A : Type ℓ} → (A → Type κ) → List A → Type κ
All P [] = Unit
All P (x ∷ l) = P x × All P l

module _ {ℓ κ} {A : Type ℓ} (P : A → Type κ) where
  pub all_snoc : (l : List A) (x : A) → All P l → P x → All P (l ++ (x ∷ []))
  unfolding All
  all_snoc [] x a p = (p, tt)
  all_snoc (y ∷ l) x a p = (a.0, all_snoc l x a.1 p)

  pub all_remove : (l : List A) (i : ℕ) → All P l → All P (remove_at l i)
  unfolding All remove_at
  all_remove [] i a = tt
  all_remove (y ∷ l) zero a = a.1
  all_remove (y ∷ l) (suc i) a = (a.0, all_remove l i a.1)

  pub all_at : (l : List A) (i : ℕ) (d : A) → i < length l → All P l → P (get_or l i d)
  unfolding All
  all_at [] i d h a = absurd (not-suc-le-zero h)
  all_at (y ∷ l) zero d h a = a.0
  all_at (y ∷ l) (suc i) d h a = all_at l i d (le_of_suc-le-suc h) a.1

  pub all_part : (l : List A) (x : A) (m : List A) → All P (l ++ (x ∷ m)) → P x
  unfolding All
  all_part [] x m a = a.0
  all_part (y ∷ l) x m a = all_part l x m a.1

pub all_map {ℓ κ λ'} : {A : Type ℓ} {P : A → Type κ} {Q : A → Type λ'} → ((x : A) → P x → Q x) → (l : List A) → All P l → All Q l
unfolding All
all_map f [] a = tt
all_map f (x ∷ l) a = (f x a.0, all_map f l a.1)
