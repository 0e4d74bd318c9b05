-- A list whose first elements are replaced by those of another: what a pass leaves that copies one list into another, place by place.
use Rattle.std.specs.Prelude.{ℕ, ◌≤◌, ◌<◌, List, ◌≡◌, length, get_or, set, take}
use Rattle.std.proofs.Common.{arith, sym, ◌∙◌, length-take-le, get_or-take, ext_get_or}
use Rattle.std.proofs.Math.Path.{refl}
use Rattle.laws.specs.Loop.{fold_from}
use Rattle.laws.specs.Parts.{stored_all}
use Rattle.laws.specs.Store.{always, store_each, length_store, store_hit}

-- one turn: at place k stands what stands there in m, or d past its end
abbrev pub overlay_at : {A : Type 0} → A → List A → List A → ℕ → List A
overlay_at d m l k = set l k (get_or m k d)

-- l with its first n elements replaced by those of m
unfoldable pub overlay : {A : Type 0} → A → List A → List A → ℕ → List A
overlay d l m n = fold_from (overlay_at d m) l 0 n

module _ {A : Type 0} (d : A) (l m : List A) where
  pub overlay_none : overlay d l m 0 ≡ l
  unfolding overlay fold_from
  overlay_none = refl

  stores : (n : ℕ) → overlay d l m n ≡ store_each always (λ k. k) (λ k. get_or m k d) l n
  unfolding overlay store_each
  stores n = refl

  pub length_overlay : (n : ℕ) → length (overlay d l m n) ≡ length l
  length_overlay n = rw (stores n) (length_store always (λ k. k) (λ k. get_or m k d) l n)

  -- an element that is replaced
  pub overlay_at_law : (n k : ℕ) → k < n → k < length l → get_or (overlay d l m n) k d ≡ get_or m k d
  overlay_at_law n k h i = rw (stores n) (store_hit always (λ k. k) (λ k. get_or m k d) (λ a b e. e) l n k d h refl i)

  pub overlay_take : (n : ℕ) → n ≤ length l → n ≤ length m → take n (overlay d l m n) ≡ take n m
  overlay_take n h i =
      ext_get_or d (take n (overlay d l m n)) (take n m) (long ∙ sym (length-take-le n m i))
      (λ k b. get_or-take n (overlay d l m n) k d (below k b) ∙ overlay_at_law n k (below k b) (omega (arith, below k b)) ∙ sym (get_or-take n m k d (below k b)))
    where
      long : length (take n (overlay d l m n)) ≡ n
      long = length-take-le n (overlay d l m n) (rw (length_overlay n) h)

      below : (k : ℕ) → k < length (take n (overlay d l m n)) → k < n
      below k b = rw long at b

  pub overlay_all : (n : ℕ) → length l ≡ n → length m ≡ n → overlay d l m n ≡ m
  overlay_all n h i = stores n ∙ stored_all (λ k. get_or m k d) d l m n h i (λ k b. refl)
