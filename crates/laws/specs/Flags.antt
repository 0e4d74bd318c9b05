-- Flags kept as numbers: one that is not 0 reads as true.
use Prim.Native.Nat.{ℕ, zero, suc, ◌+◌, ◌<◌, ◌≤◌}
use Rattle.std.specs.Prelude.{Bool, true, false, cond, not, ◌⊎◌, ◌≡◌, eqb, get_or, set, replicate}
use mathlib.Core.List.{List, [], ◌∷◌, map}
use Rattle.std.proofs.Common.{inl, inr, sym, ◌∙◌, eq-eqb, ne_eqb}
use Rattle.std.proofs.Math.Path.{refl, ap}
use Rattle.std.proofs.Math.ListN.{get_or-map}
use Rattle.laws.specs.Choice.{true_or_false}
use Rattle.laws.specs.Loop.{fold_from}
use Rattle.laws.specs.Store.{store_at, store_each}
use Rattle.laws.specs.Parts.{start, size, parts, part_at, part_past}

abbrev pub flag : ℕ → Bool
flag n = not (eqb n 0)

-- the word that is stored for a flag
abbrev pub word_of : Bool → ℕ
word_of b = cond b 1 0

pub flag_word : (b : Bool) → flag (word_of b) ≡ b
flag_word true = refl
flag_word false = refl

unfoldable pub flags : List ℕ → List Bool
flags l = map flag l

flags_at : (l : List ℕ) (i : ℕ) → get_or (flags l) i false ≡ flag (get_or l i 0)
unfolding flags
flags_at l i = get_or-map flag l i 0

pub flags_set : (l : List ℕ) (i x : ℕ) → flags (set l i x) ≡ set (flags l) i (flag x)
unfolding flags
flags_set [] i x = refl
flags_set (y ∷ l) zero x = refl
flags_set (y ∷ l) (suc i) x = ap (◌∷◌ (flag y)) (flags_set l i x)

module _ (p : ℕ → Bool) (f g : ℕ → ℕ) where
  flags_turn : (l : List ℕ) (d : ℕ) → flags (store_at p f g l d) ≡ store_at p f (λ (d : ℕ). flag (g d)) (flags l) d
  flags_turn l d = pick (true_or_false (p d))
    where
      pick : (p d ≡ true) ⊎ (p d ≡ false) → flags (store_at p f g l d) ≡ store_at p f (λ (d : ℕ). flag (g d)) (flags l) d
      pick (inl e) = rw e (flags_set l (f d) (g d))
      pick (inr e) = rw e

  flags_from : (l : List ℕ) (d n : ℕ) → flags (fold_from (store_at p f g) l d n) ≡ fold_from (store_at p f (λ (d : ℕ). flag (g d))) (flags l) d n
  unfolding fold_from
  flags_from l d zero = refl
  flags_from l d (suc n) =
      flags_from (store_at p f g l d) (d + 1) n
      ∙ ap (λ (m : List Bool). fold_from (store_at p f (λ (d : ℕ). flag (g d))) m (d + 1) n) (flags_turn l d)

  pub flags_each : (l : List ℕ) (n : ℕ) → flags (store_each p f g l n) ≡ store_each p f (λ (d : ℕ). flag (g d)) (flags l) n
  unfolding store_each
  flags_each l n = flags_from l 0 n

pub flags_zero : (n : ℕ) → flags (replicate n 0) ≡ replicate n false
unfolding flags
flags_zero zero = refl
flags_zero (suc n) = ap (◌∷◌ false) (flags_zero n)

-- a flag of field k, read
module _ (z w : List ℕ) (k i : ℕ) (h : i < size z k) where
  pub flag_at : flag (get_or w (start z k + i) 0) ≡ get_or (flags (parts z w k)) i false
  flag_at = ap flag (part_at z w k i h) ∙ sym (flags_at (parts z w k) i)

  pub flag_yes : (get_or w (start z k + i) 0 ≡ 0 → ⊥) → get_or (flags (parts z w k)) i false ≡ true
  flag_yes n = sym flag_at ∙ ap not (ne_eqb (get_or w (start z k + i) 0) 0 n)

  pub flag_no : get_or w (start z k + i) 0 ≡ 0 → get_or (flags (parts z w k)) i false ≡ false
  flag_no e = sym flag_at ∙ ap not (eq-eqb (get_or w (start z k + i) 0) 0 e)

-- .. and past the field's end
pub flag_past : (z w : List ℕ) (k i : ℕ) → size z k ≤ i → get_or (flags (parts z w k)) i false ≡ false
flag_past z w k i h = flags_at (parts z w k) i ∙ ap flag (part_past z w k i h)
