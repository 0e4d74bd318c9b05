-- A row that is stored under a name and then changed in place.
use Prim.Native.Nat.{ℕ, zero, suc}
use mathlib.Core.List.{List, [], ◌∷◌}
use mathlib.Core.Path.{◌≡◌, refl, ap}
use lib.ListN.{get_or, set}

-- the new row is changed, not the old one; if there is no row i, nothing is stored
pub set_row {ℓ} : {A : Type ℓ} (g : A → A) (d : A) (l : List A) (i : ℕ) (a : A) → set (set l i a) i (g (get_or (set l i a) i d)) ≡ set l i (g a)
set_row g d [] i a = refl
set_row g d (x ∷ l) zero a = refl
set_row g d (x ∷ l) (suc i) a = ap (λ m. x ∷ m) (set_row g d l i a)
