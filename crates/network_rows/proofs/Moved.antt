-- What a copy within a list leaves, and a copy of a whole row.
use Rattle.std.specs.Prelude.{ℕ, ◌+◌, ◌-◌, ◌<◌, ◌≤◌, true, false, List, ◌≡◌, ◌⊎◌, ltb, length, get_or}
use borrow.Rule.Slice.PartMut.{put_mid}
use Rattle.std.proofs.lemmas.List.{places, ext_get_or}
use Rattle.std.proofs.Common.{arith, rules, refl, inl, inr, sym, ap, ◌∙◌}
use Rattle.std.specs.List.{CopiedTo, SameBelow, SameFrom}
use borrow.Author.Tests.{ltb-true, ltb-false}
use Rattle.laws.specs.Choice.{true_or_false}
use Rattle.laws.specs.Store.{store_each, always, store_hit, store_other, length_store}
use Rattle.network_rows.specs.Shift.{shifting_of}

-- a list that holds g k at place s + k for each k below n, and elsewhere what l holds
module _ {A : Type 0} (l m : List A) (d : A) (s n : ℕ) (f : ℕ → ℕ) (g : ℕ → A) (at : (k : ℕ) → f k ≡ s + k) (h : s + n ≤ length l) (e : length m ≡ length l)
    (below : (q : ℕ) → q < s → get_or m q d ≡ get_or l q d) (here : (k : ℕ) → k < n → get_or m (s + k) d ≡ g k)
    (above : (q : ℕ) → s + n ≤ q → get_or m q d ≡ get_or l q d) where
  one : (a b : ℕ) → f a ≡ f b → a ≡ b
  one a b q = omega (arith, at a, at b)

  outside : (q : ℕ) → ((k : ℕ) → k < n → s + k ≡ q → ⊥) → get_or (store_each always f g l n) q d ≡ get_or l q d
  outside q w = store_other always f g l n q d (λ k a b c. w k a (sym (at k) ∙ c))

  inside : (k : ℕ) → k < n → get_or (store_each always f g l n) (s + k) d ≡ g k
  inside k a = rw (← at k) (store_hit always f g one l n k d a refl (omega (arith, at k)))

  same : (q : ℕ) → get_or m q d ≡ get_or (store_each always f g l n) q d
  same q = pick (true_or_false (ltb q s)) (true_or_false (ltb q (s + n)))
    where
      hit : s ≤ q → q < s + n → get_or m q d ≡ get_or (store_each always f g l n) q d
      hit a b =
          let z : q ≡ s + (q - s) = omega arith in
          rw z (here (q - s) (omega arith) ∙ sym (inside (q - s) (omega arith)))

      pick : (ltb q s ≡ true) ⊎ (ltb q s ≡ false) → (ltb q (s + n) ≡ true) ⊎ (ltb q (s + n) ≡ false) → get_or m q d ≡ get_or (store_each always f g l n) q d
      pick (inl t) u = let a = ltb-true q s t in below q a ∙ sym (outside q (λ k b c. omega arith))
      pick (inr t) (inl u) = hit (ltb-false q s t) (ltb-true q (s + n) u)
      pick (inr t) (inr u) = let a = ltb-false q (s + n) u in above q a ∙ sym (outside q (λ k b c. omega arith))

  pub stored_all : m ≡ store_each always f g l n
  stored_all = ext_get_or d m _ (e ∙ sym (length_store always f g l n)) (λ q a. same q)

-- copying n elements down within a list
module _ {A : Type 0} (l m : List A) (d : A) (field from n wide k : ℕ) (z : k ≡ n) (h : field + (from + n + wide) ≤ length l) (e : length m ≡ length l)
    (c : CopiedTo l m (field + from + wide) (field + from) k × SameBelow l m (field + from) × SameFrom l m (field + from + k)) where
  pub moved : m ≡ shifting_of d field from n wide l
  moved =
      stored_all l m d (field + from) n (λ (j : ℕ). field + (from + j)) (λ (j : ℕ). get_or l (field + (from + j + wide)) d) (λ k. omega arith) (omega arith) e
      (λ q a. c.1 q d a)
      (λ j a. c.0 (field + from + j) d (omega arith) (omega arith) ∙ ap (λ (q : ℕ). get_or l q d) (same_place j))
      (λ q a. c.2 q d (omega arith))
    where
      same_place : (j : ℕ) → field + from + wide + (field + from + j - (field + from)) ≡ field + (from + j + wide)
      same_place j = omega arith

-- copying a row into part of a list
module _ (w r x : List ℕ) (s i n k : ℕ) (z : k ≡ n) (h : s + i + n ≤ length w) (e : x ≡ r) (u : length r ≡ n) where
  pub row_stored : put_mid (s + i) k w x ≡ store_each always (λ (k : ℕ). s + (i + k)) (λ (k : ℕ). get_or r k 0) w n
  row_stored =
      rw (z, e) (stored_all w (put_mid (s + i) n w r) 0 (s + i) n (λ (k : ℕ). s + (i + k)) (λ (k : ℕ). get_or r k 0) (λ k. omega arith) h
      (search (rules, places))
      (λ q a. search (rules, places))
      (λ k a. search (rules, places))
      (λ q a. search (rules, places)))
