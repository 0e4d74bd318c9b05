-- Sets of small numbers as the bits of a word: bit k says whether k is a member.
use Rattle.std.specs.Prelude.{ℕ, zero, suc, ◌+◌, ◌*◌, ◌/◌, ◌%◌, ◌^◌, ◌<◌, ◌≤◌, Bool, cond, not, ◌&&◌, ◌||◌, ◌⊎◌, ◌≡◌, refl, eqb, ltb}
use Rattle.std.proofs.Common.{le_of_suc-le-suc, lt_of_lt_of_le, arith, inl, inr, ⊎_elim, sym, ap, ap₂, ◌∙◌, lit<, pow_mono, eq-eqb, ne_eqb, eqb-true, ltb-true, ltb-false}
use Rattle.std.proofs.Math.Bool.{true, false}
use Rattle.std.proofs.Math.Arith.{digits_div, digits_mod, lt-one}
use Rattle.std.proofs.lemmas.Bool.{eqb-false}
use Rattle.laws.specs.Choice.{cond_keeps, true_or_false, not_both, same?, and-true, or_true, and_yes, and_no}
use Rattle.laws.specs.Loop.{all_from, all_each, all_of}

-- whether k is a member of m
unfoldable pub bit_at : ℕ → ℕ → Bool
bit_at m zero = eqb (m % 2) 1
bit_at m (suc k) = bit_at (m / 2) k

-- the set of the k below n with p k
unfoldable pub set_of : (ℕ → Bool) → ℕ → ℕ
set_of p zero = 0
set_of p (suc n) = set_of (λ k. p (suc k)) n * 2 + cond (p zero) 1 0

-- ---- sets in a word of 32 bits

-- k added, k taken out, the members of b taken out
unfoldable pub added : ℕ → ℕ → ℕ
added m k = set_of (λ j. bit_at m j || eqb j k) 32

unfoldable pub removed : ℕ → ℕ → ℕ
removed m k = set_of (λ j. bit_at m j && not (eqb j k)) 32

unfoldable pub less : ℕ → ℕ → ℕ
less a b = set_of (λ j. bit_at a j && not (bit_at b j)) 32

-- whether each member of m passes p
unfoldable pub all_in : (ℕ → Bool) → ℕ → Bool
all_in p m = all_from (λ k. not (bit_at m k) || p k) 0 32

-- whether each member of a is one of b
abbrev pub within : ℕ → ℕ → Bool
within a b = all_in (bit_at b) a

-- ---- a word is twice the rest and its lowest bit

small : (b : Bool) → cond b 1 0 < 2
small true = lit< tt
small false = lit< tt

pub low_bit : (m : ℕ) → m % 2 ≡ cond (bit_at m 0) 1 0
unfolding bit_at
low_bit m = cond_keeps (λ (x : ℕ). m % 2 ≡ x) (eqb (m % 2) 1) (λ e. eqb-true (m % 2) 1 e) (λ e. zero_then (eqb-false (m % 2) 1 e))
  where
    zero_then : (m % 2 ≡ 1 → ⊥) → m % 2 ≡ 0
    zero_then h = omega arith

pub join_bit : (x : ℕ) (b : Bool) → bit_at (x * 2 + cond b 1 0) 0 ≡ b
unfolding bit_at
join_bit x b = ap (λ (y : ℕ). eqb y 1) (digits_mod x (small b)) ∙ is b
  where
    is : (b : Bool) → eqb (cond b 1 0) 1 ≡ b
    is true = refl
    is false = refl

pub join_rest : (x : ℕ) (b : Bool) → (x * 2 + cond b 1 0) / 2 ≡ x
join_rest x b = digits_div x (small b)

whole : (m : ℕ) → m ≡ m / 2 * 2 + cond (bit_at m 0) 1 0
whole m = omega (arith, low_bit m)

pub half_below : (m n : ℕ) → m < 2 ^ suc n → m / 2 < 2 ^ n
half_below m n h = omega arith

-- ---- a set made of a test

pub set_in : (p : ℕ → Bool) (n k : ℕ) → k < n → bit_at (set_of p n) k ≡ p k
unfolding bit_at set_of
set_in p zero k h = absurd (omega arith)
set_in p (suc n) zero h = join_bit (set_of (λ k. p (suc k)) n) (p zero)
set_in p (suc n) (suc k) h =
    ap (λ (x : ℕ). bit_at x k) (join_rest (set_of (λ k. p (suc k)) n) (p zero)) ∙ set_in (λ k. p (suc k)) n k (le_of_suc-le-suc h)

pub bit_none : (k : ℕ) → bit_at 0 k ≡ false
unfolding bit_at
bit_none zero = refl
bit_none (suc k) = bit_none k

set_out : (p : ℕ → Bool) (n k : ℕ) → n ≤ k → bit_at (set_of p n) k ≡ false
unfolding bit_at set_of
set_out p zero k h = bit_none k
set_out p (suc n) zero h = absurd (omega arith)
set_out p (suc n) (suc k) h =
    ap (λ (x : ℕ). bit_at x k) (join_rest (set_of (λ k. p (suc k)) n) (p zero)) ∙ set_out (λ k. p (suc k)) n k (le_of_suc-le-suc h)

set_below : (p : ℕ → Bool) (n : ℕ) → set_of p n < 2 ^ n
unfolding set_of
set_below p zero = lit< tt
set_below p (suc n) = omega (arith, set_below (λ k. p (suc k)) n, small (p zero))

-- a word with the bits of p is the set of p
pub set_is : (p : ℕ → Bool) (n m : ℕ) → m < 2 ^ n → ((k : ℕ) → k < n → bit_at m k ≡ p k) → m ≡ set_of p n
unfolding bit_at set_of
set_is p zero m h e = lt-one h
set_is p (suc n) m h e =
    whole m ∙ ap₂ (λ (x : ℕ) (b : Bool). x * 2 + cond b 1 0) (set_is (λ k. p (suc k)) n (m / 2) (half_below m n h) (λ k i. e (suc k) (omega arith))) (e zero (omega arith))

set_back : (m n : ℕ) → m < 2 ^ n → set_of (bit_at m) n ≡ m
set_back m n h = sym (set_is (bit_at m) n m h (λ k i. refl))

-- the bits of each
pub bit_added : (m k j : ℕ) → j < 32 → bit_at (added m k) j ≡ bit_at m j || eqb j k
unfolding added
bit_added m k j h = set_in _ 32 j h

pub bit_removed : (m k j : ℕ) → j < 32 → bit_at (removed m k) j ≡ bit_at m j && not (eqb j k)
unfolding removed
bit_removed m k j h = set_in _ 32 j h

pub bit_less : (a b j : ℕ) → j < 32 → bit_at (less a b) j ≡ bit_at a j && not (bit_at b j)
unfolding less
bit_less a b j h = set_in _ 32 j h

-- ---- each member passes

pub all_in_law : (p : ℕ → Bool) (m : ℕ) → all_in p m ≡ true → (k : ℕ) → k < 32 → bit_at m k ≡ true → p k ≡ true
unfolding all_in
all_in_law p m e k h b = rw b at (all_each (λ k. not (bit_at m k) || p k) 32 e k h)

in_all : (p : ℕ → Bool) (m : ℕ) → ((k : ℕ) → k < 32 → bit_at m k ≡ true → p k ≡ true) → all_in p m ≡ true
unfolding all_in
in_all p m f = all_of (λ k. not (bit_at m k) || p k) 32 (λ k h. pick k (f k h) (true_or_false (bit_at m k)))
  where
    pick : (k : ℕ) → (bit_at m k ≡ true → p k ≡ true) → (bit_at m k ≡ true) ⊎ (bit_at m k ≡ false) → not (bit_at m k) || p k ≡ true
    pick k g (inl e) = rw e (g e)
    pick k g (inr e) = rw e

-- the empty set is within every set; where a set is within c, so is a part of it, and so is it with one more member of c
pub within_none : (b : ℕ) → within 0 b ≡ true
within_none b = in_all (bit_at b) 0 (λ k h e. not_both e (bit_none k))

pub within_less : (a b c : ℕ) → within a c ≡ true → within (less a b) c ≡ true
within_less a b c w = in_all (bit_at c) (less a b) (λ k h e. all_in_law (bit_at c) a w k h (and-true _ _ (sym (bit_less a b k h) ∙ e)).0)

pub within_added : (a k c : ℕ) → bit_at c k ≡ true → within a c ≡ true → within (added a k) c ≡ true
within_added a k c m w =
    in_all (bit_at c) (added a k) (λ j h e. ⊎_elim (all_in_law (bit_at c) a w j h) (λ q. rw (eqb-true j k q) m) (or_true _ _ (sym (bit_added a k j h) ∙ e)))

-- ---- a set that is made member by member

or_no : (a : Bool) → (a || false) ≡ a
or_no true = refl
or_no false = refl

below? : (k n : ℕ) → (k < n) ⊎ (n ≤ k)
below? k n = cases (true_or_false (ltb k n))
  where
    cases : (ltb k n ≡ true) ⊎ (ltb k n ≡ false) → (k < n) ⊎ (n ≤ k)
    cases (inl q) = inl (ltb-true k n q)
    cases (inr q) = inr (ltb-false k n q)

-- the set of one number more
module _ (p : ℕ → Bool) (k : ℕ) (h : k < 32) where
  below : (n : ℕ) → n ≤ 32 → set_of p n < 2 ^ 32
  below n l = lt_of_lt_of_le (set_below p n) (pow_mono l)

  in_more : (j : ℕ) → (j < k) ⊎ (k ≤ j) → (j ≡ k) ⊎ (j ≡ k → ⊥) → bit_at (set_of p (k + 1)) j ≡ bit_at (set_of p k) j || (p k && eqb j k)
  in_more j (inl a) q = set_in p (k + 1) j (omega arith) ∙ rw (set_in p k j a, ne_eqb j k (λ e. omega arith), and_no (p k)) (sym (or_no (p j)))
  in_more j (inr a) (inl q) = rw (q, set_in p (k + 1) k (omega arith), set_out p k k (omega arith), eq-eqb k k refl) (sym (and_yes (p k)))
  in_more j (inr a) (inr q) = rw (set_out p (k + 1) j (omega arith), set_out p k j a, ne_eqb j k q) (sym (and_no (p k)))

  grown : (b : Bool) → p k ≡ b → set_of p (k + 1) ≡ cond b (added (set_of p k) k) (set_of p k)
  unfolding added
  grown true e = set_is _ 32 _ (below (k + 1) (omega arith)) (λ j i. in_more j (below? j k) (same? j k) ∙ rw e)
  grown false e = set_is _ 32 _ (below (k + 1) (omega arith)) (λ j i. in_more j (below? j k) (same? j k) ∙ rw e (or_no _)) ∙ set_back (set_of p k) 32 (below k (omega arith))

  -- as a loop adds it: m is the set so far, u the next one, r whether k passes
  pub set_again : (m u : ℕ) (r : Bool) → m ≡ set_of p k → r ≡ p k → u ≡ cond r (added m k) m → u ≡ set_of p (k + 1)
  set_again m u r a b c = c ∙ rw (a, b) (sym (grown (p k) refl))

-- .. and as it comes to its end
pub set_end : (p : ℕ → Bool) (n k m : ℕ) → k ≤ n → n ≤ k → m ≡ set_of p k → m ≡ set_of p n
set_end p n k m a b e = e ∙ ap (set_of p) (omega arith)
