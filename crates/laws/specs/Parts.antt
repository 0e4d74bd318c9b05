-- A list read as fields that follow one another, by a table z of their lengths: what a store into one field does to each.
use Prim.Native.Nat.{ℕ, zero, suc, ◌+◌, ◌-◌, ◌<◌, ◌≤◌}
use Rattle.std.proofs.Math.Decide.{ℕ_discrete}
use native.Mathlib.Omega.{arith}
use Rattle.std.specs.Prelude.{Bool, true, false, cond, ◌≡◌, ◌⊎◌, eqb, ltb, length, get_or, set, take, drop, replicate}
use mathlib.Core.List.{List, [], ◌∷◌}
use Rattle.std.proofs.Math.Path.{refl, sym, ap, fun_ext}
use Rattle.std.proofs.Common.{◌∙◌, inl, inr, length-take, drop-set-lt, get_or-take, ext_get_or}
use Rattle.std.proofs.Math.ListN.{length-drop, get_or-eq_default}
use Rattle.std.proofs.lemmas.List.{length-replicate, get_or-replicate, take-set-le}
use Rattle.std.proofs.Math.Seq.{take-set-lt, drop-set-add, get_or-drop}
use borrow.Author.Tests.{eq-eqb, ne_eqb, ltb-true, ltb-false}
use Rattle.laws.specs.Choice.{cond_keeps, true_or_false}
use Rattle.laws.specs.Loop.{fold_from}
use Rattle.laws.specs.Store.{store_at, store_each, always, length_store, store_hit}

-- where field k starts, and how long it is
abbrev pub start : List ℕ → ℕ → ℕ
start z zero = 0
start [] (suc k) = 0
start (n ∷ z) (suc k) = n + start z k

abbrev pub size : List ℕ → ℕ → ℕ
size z k = get_or z k 0

-- the fields of w, by their numbers
unfoldable pub parts : List ℕ → List ℕ → ℕ → List ℕ
parts z w k = take (size z k) (drop (start z k) w)

-- fields with another list at k
abbrev pub with_part : (ℕ → List ℕ) → ℕ → List ℕ → ℕ → List ℕ
with_part p k l j = cond (eqb j k) l (p j)

in_order : (z : List ℕ) (j k : ℕ) → j < k → start z j + size z j ≤ start z k
in_order z j zero h = absurd (omega arith)
in_order [] zero (suc k) h = omega arith
in_order [] (suc j) (suc k) h = omega arith
in_order (n ∷ z) zero (suc k) h = omega arith
in_order (n ∷ z) (suc j) (suc k) h = omega (arith, in_order z j k (omega arith))

module _ (z w : List ℕ) (k : ℕ) where
  -- an element of a field
  pub part_at : (i : ℕ) → i < size z k → get_or w (start z k + i) 0 ≡ get_or (parts z w k) i 0
  unfolding parts
  part_at i h = sym (get_or-take (size z k) (drop (start z k) w) i 0 h ∙ get_or-drop (start z k) w i 0)

  -- past a field's end there is nothing
  pub part_past : (i : ℕ) → size z k ≤ i → get_or (parts z w k) i 0 ≡ 0
  unfolding parts
  part_past i h = get_or-eq_default (take (size z k) (drop (start z k) w)) 0 {n = i} (rw (length-take (size z k) (drop (start z k) w)) (omega arith))

  pub part_length : start z k + size z k ≤ length w → length (parts z w k) ≡ size z k
  unfolding parts
  part_length h = rw (length-take (size z k) (drop (start z k) w), length-drop (start z k) w) (omega arith)

  module _ (i x : ℕ) (h : i < size z k) where
    part_same : parts z (set w (start z k + i) x) k ≡ set (parts z w k) i x
    unfolding parts
    part_same = rw (drop-set-add (start z k) w i x, take-set-lt (size z k) (drop (start z k) w) i x h)

    part_before : (j : ℕ) → j < k → parts z (set w (start z k + i) x) j ≡ parts z w j
    unfolding parts
    part_before j l =
        let b = in_order z j k l in
        let e : start z k + i ≡ start z j + ((start z k + i) - start z j) = omega arith in
        rw (e, drop-set-add (start z j) w ((start z k + i) - start z j) x) (take-set-le (size z j) (drop (start z j) w) ((start z k + i) - start z j) x (omega arith))

    part_after : (j : ℕ) → k < j → parts z (set w (start z k + i) x) j ≡ parts z w j
    unfolding parts
    part_after j l =
        let b = in_order z k j l in
        rw (drop-set-lt (start z j) w (start z k + i) x (omega arith))

    part_other : (j : ℕ) → (j ≡ k → ⊥) → parts z (set w (start z k + i) x) j ≡ parts z w j
    part_other j n = pick (true_or_false (ltb j k))
      where
        pick : (ltb j k ≡ true) ⊎ (ltb j k ≡ false) → parts z (set w (start z k + i) x) j ≡ parts z w j
        pick (inl e) = part_before j (ltb-true j k e)
        pick (inr e) = part_after j (let l = ltb-false j k e in let m : (k ≡ j → ⊥) = (λ q. n (sym q)) in omega arith)

    -- a store into field k
    pub stored : parts z (set w (start z k + i) x) ≡ with_part (parts z w) k (set (parts z w k) i x)
    stored = fun_ext (λ j. pick j (ℕ_discrete j k))
      where
        pick : (j : ℕ) → Dec (j ≡ k) → parts z (set w (start z k + i) x) j ≡ with_part (parts z w) k (set (parts z w k) i x) j
        pick j (yes e) = rw (e, eq-eqb k k refl) part_same
        pick j (no n) = rw (ne_eqb j k n) (part_other j n)

-- field k of w, and nothing else, may differ from w₀: what a loop keeps
pub record Only (z : List ℕ) (k : ℕ) (w₀ w : List ℕ) : Type 0 where
  pub others : (j : ℕ) → (j ≡ k → ⊥) → parts z w j ≡ parts z w₀ j

pub only_start : (z : List ℕ) (k : ℕ) (w : List ℕ) → Only z k w w
only_start z k w = record { others = λ j n. refl }

pub only_set : (z : List ℕ) (k : ℕ) (w₀ w : List ℕ) (i x : ℕ) → i < size z k → Only z k w₀ w → Only z k w₀ (set w (start z k + i) x)
only_set z k w₀ w i x h o = record { others = λ j n. part_other z w k i x h j n ∙ o.others j n }

-- stores into field k at several places, in one pass
module _ (z : List ℕ) (k : ℕ) (p : ℕ → Bool) (f g : ℕ → ℕ) (N : ℕ) (fits : (d : ℕ) → d < N → f d < size z k) where
  turn_same : (w : List ℕ) (d : ℕ) → d < N → parts z (store_at p (λ (d : ℕ). start z k + f d) g w d) k ≡ store_at p f g (parts z w k) d
  turn_same w d h = pick (true_or_false (p d))
    where
      pick : (p d ≡ true) ⊎ (p d ≡ false) → parts z (store_at p (λ (d : ℕ). start z k + f d) g w d) k ≡ store_at p f g (parts z w k) d
      pick (inl e) = rw e (part_same z w k (f d) (g d) (fits d h))
      pick (inr e) = rw e

  turn_other : (w : List ℕ) (d : ℕ) → d < N → (j : ℕ) → (j ≡ k → ⊥) → parts z (store_at p (λ (d : ℕ). start z k + f d) g w d) j ≡ parts z w j
  turn_other w d h j n = cond_keeps (λ (m : List ℕ). parts z m j ≡ parts z w j) (p d) (λ e. part_other z w k (f d) (g d) (fits d h) j n) (λ e. refl)

  pass_same : (w : List ℕ) (d n : ℕ) → d + n ≤ N → parts z (fold_from (store_at p (λ (d : ℕ). start z k + f d) g) w d n) k ≡ fold_from (store_at p f g) (parts z w k) d n
  unfolding fold_from
  pass_same w d zero h = refl
  pass_same w d (suc n) h =
      pass_same (store_at p (λ (d : ℕ). start z k + f d) g w d) (d + 1) n (omega arith)
      ∙ ap (λ (l : List ℕ). fold_from (store_at p f g) l (d + 1) n) (turn_same w d (omega arith))

  pass_other : (w : List ℕ) (d n : ℕ) → d + n ≤ N → (j : ℕ) → (j ≡ k → ⊥) → parts z (fold_from (store_at p (λ (d : ℕ). start z k + f d) g) w d n) j ≡ parts z w j
  unfolding fold_from
  pass_other w d zero h j q = refl
  pass_other w d (suc n) h j q = pass_other (store_at p (λ (d : ℕ). start z k + f d) g w d) (d + 1) n (omega arith) j q ∙ turn_other w d (omega arith) j q

  pub stored_each : (w : List ℕ) → parts z (store_each p (λ (d : ℕ). start z k + f d) g w N) ≡ with_part (parts z w) k (store_each p f g (parts z w k) N)
  unfolding store_each
  stored_each w = fun_ext (λ j. pick j (ℕ_discrete j k))
    where
      pick : (j : ℕ) → Dec (j ≡ k) → parts z (fold_from (store_at p (λ (d : ℕ). start z k + f d) g) w 0 N) j ≡ with_part (parts z w) k (fold_from (store_at p f g) (parts z w k) 0 N) j
      pick j (yes e) = rw (e, eq-eqb k k refl) (pass_same w 0 N (omega arith))
      pick j (no n) = rw (ne_eqb j k n) (pass_other w 0 N (omega arith) j n)

-- ---- a whole field stored

module _ {A : Type 0} (g : ℕ → A) (d : A) where
  -- a list into whose places g is stored from the first to the last is what g says everywhere
  pub stored_all : (l m : List A) (n : ℕ) → length l ≡ n → length m ≡ n → ((i : ℕ) → i < n → get_or m i d ≡ g i) → store_each always (λ (i : ℕ). i) g l n ≡ m
  stored_all l m n h k e =
      ext_get_or d (store_each always (λ (i : ℕ). i) g l n) m (length_store always (λ (i : ℕ). i) g l n ∙ h ∙ sym k)
      (λ i b. (let b' : i < n = rw (length_store always (λ (i : ℕ). i) g l n ∙ h) at b in store_hit always (λ (i : ℕ). i) g (λ a b e. e) l n i d b' refl (rw h b') ∙ sym (e i b')))

pub copied : (l m : List ℕ) (n : ℕ) → length l ≡ n → length m ≡ n → store_each always (λ (i : ℕ). i) (λ (i : ℕ). get_or m i 0) l n ≡ m
copied l m n h k = stored_all (λ (i : ℕ). get_or m i 0) 0 l m n h k (λ i b. refl)

-- the n places from `field` on become x
abbrev pub filling : ℕ → ℕ → ℕ → List ℕ → List ℕ
filling field n x w = store_each always (λ (i : ℕ). field + i) (λ (i : ℕ). x) w n

pub length_filled : (field n x : ℕ) (w u : List ℕ) → u ≡ filling field n x w → length u ≡ length w
length_filled field n x w u e = ap length e ∙ length_store always (λ (i : ℕ). field + i) (λ (i : ℕ). x) w n

-- field k filled as a whole
pub filled_field : (z w u : List ℕ) (k x : ℕ) → start z k + size z k ≤ length w → u ≡ filling (start z k) (size z k) x w
    → parts z u ≡ with_part (parts z w) k (replicate (size z k) x)
filled_field z w u k x h e =
    ap (parts z) e ∙ stored_each z k always (λ (i : ℕ). i) (λ (i : ℕ). x) (size z k) (λ d l. l) w
    ∙ ap (with_part (parts z w) k) (stored_all (λ (i : ℕ). x) 0 (parts z w k) (replicate (size z k) x) (size z k) (part_length z w k h) (length-replicate (size z k) x) (λ i b. get_or-replicate (size z k) i x 0 b))

-- a list of one number over and over has such fields
pub part_replicate : (z : List ℕ) (n x k : ℕ) → start z k + size z k ≤ n → parts z (replicate n x) k ≡ replicate (size z k) x
part_replicate z n x k h =
    let l = length-replicate n x in
    ext_get_or 0 (parts z (replicate n x) k) (replicate (size z k) x) (part_length z (replicate n x) k (omega arith) ∙ sym (length-replicate (size z k) x))
    (λ i b.
    (let b' : i < size z k = rw (part_length z (replicate n x) k (omega arith)) at b in
    sym (part_at z (replicate n x) k i b') ∙ get_or-replicate n (start z k + i) x 0 (omega arith) ∙ sym (get_or-replicate (size z k) i x 0 b')))
