-- What the machine's operations on a word do to its bits, and what they give as sets.
use Prim.Native.Nat.{ℕ, zero, suc, ◌+◌, ◌-◌, ◌*◌, ◌/◌, ◌%◌, ◌^◌, ◌<◌, ◌≤◌, min, max}
use Rattle.std.proofs.Common.{le_of_suc-le-suc, lt_of_lt_of_le, lt_of_le_of_lt, div-one, zero-add, suc-add, add-zero, one-add, arith}
use Rattle.std.proofs.Common.{inl, inr, ap₂, ◌∙◌, lit<, pow_pos, pow_mono, shl_exact, shl_lt, shr-shr}
use Rattle.std.specs.Prelude.{Bool, cond, ◌&&◌, ◌||◌, ◌⊎◌, ◌≡◌, eqb}
use Rattle.std.proofs.Math.Bool.{true, false, not}
use Rattle.std.proofs.Math.Path.{refl, sym, ap}
use Rattle.std.proofs.Math.Arith.{lt-one}
use Rattle.std.proofs.Math.Dec.{eqb-suc-zero, eqb-zero-suc, eqb-suc-suc}
use Rattle.std.proofs.lemmas.Nat.{shr_le, and_le_l, or_lt}
use Rattle.std.specs.Int.Bits.{bit_and, bit_or, and_step, or_step, shifted_half, shifted_even}
use Rattle.std.specs.Int.Count.{count_trailing_zeros, under}
use borrow.Author.Tests.{eq-eqb, eqb-true}
use Rattle.laws.specs.Choice.{true_or_false}
use Rattle.laws.specs.Loop.{all_of}
use Rattle.laws.specs.Sets.{bit_at, added, removed, less, all_in, within, all_in_law, low_bit, join_bit, join_rest, half_below, set_is, bit_none, bit_less}
use Rattle.laws.specs.First.{first_known, first_nothing}
use Rattle.laws.specs.Skip.{Found}

-- ---- bits of the word operations

module _ (op : ℕ → ℕ → ℕ) (f : ℕ → ℕ → ℕ) (g : Bool → Bool → Bool) (step : (a b : ℕ) → op a b ≡ op (a / 2) (b / 2) * 2 + f (a % 2) (b % 2))
    (table : (x y : Bool) → f (cond x 1 0) (cond y 1 0) ≡ cond (g x y) 1 0) where
  joined : (a b : ℕ) → op a b ≡ op (a / 2) (b / 2) * 2 + cond (g (bit_at a 0) (bit_at b 0)) 1 0
  joined a b = step a b ∙ ap (λ (x : ℕ). op (a / 2) (b / 2) * 2 + x) (ap₂ f (low_bit a) (low_bit b) ∙ table (bit_at a 0) (bit_at b 0))

  bit_op : (a b k : ℕ) → bit_at (op a b) k ≡ g (bit_at a k) (bit_at b k)
  unfolding bit_at
  bit_op a b zero = ap (λ (x : ℕ). bit_at x 0) (joined a b) ∙ join_bit (op (a / 2) (b / 2)) (g (bit_at a 0) (bit_at b 0))
  bit_op a b (suc k) =
      ap (λ (x : ℕ). bit_at (x / 2) k) (joined a b) ∙ ap (λ (x : ℕ). bit_at x k) (join_rest (op (a / 2) (b / 2)) (g (bit_at a 0) (bit_at b 0)))
      ∙ bit_op (a / 2) (b / 2) k

pub bit_and_law : (a b k : ℕ) → bit_at (bit_and a b) k ≡ bit_at a k && bit_at b k
bit_and_law = bit_op bit_and min ◌&&◌ and_step table
  where
    table : (x y : Bool) → min (cond x 1 0) (cond y 1 0) ≡ cond (x && y) 1 0
    table true true = refl
    table true false = refl
    table false true = refl
    table false false = refl

pub bit_or_law : (a b k : ℕ) → bit_at (bit_or a b) k ≡ bit_at a k || bit_at b k
bit_or_law = bit_op bit_or max ◌||◌ or_step table
  where
    table : (x y : Bool) → max (cond x 1 0) (cond y 1 0) ≡ cond (x || y) 1 0
    table true true = refl
    table true false = refl
    table false true = refl
    table false false = refl

-- `!a` flips the lowest bit and the rest
flip : (n a : ℕ) → a < 2 ^ suc n → (2 ^ suc n - 1) - a ≡ ((2 ^ n - 1) - a / 2) * 2 + cond (not (bit_at a 0)) 1 0
flip n a h = omega (arith, pow_pos n, low_bit a, turned (bit_at a 0))
  where
    turned : (b : Bool) → cond (not b) 1 0 + cond b 1 0 ≡ 1
    turned true = refl
    turned false = refl

-- a bit of `!a`
pub bit_not : (n a k : ℕ) → a < 2 ^ n → k < n → bit_at ((2 ^ n - 1) - a) k ≡ not (bit_at a k)
unfolding bit_at
bit_not zero a k h i = absurd (omega arith)
bit_not (suc n) a zero h i = ap (λ (x : ℕ). bit_at x 0) (flip n a h) ∙ join_bit ((2 ^ n - 1) - a / 2) (not (bit_at a 0))
bit_not (suc n) a (suc k) h i =
    ap (λ (x : ℕ). bit_at (x / 2) k) (flip n a h) ∙ ap (λ (x : ℕ). bit_at x k) (join_rest ((2 ^ n - 1) - a / 2) (not (bit_at a 0)))
    ∙ bit_not n (a / 2) k (half_below a n h) (le_of_suc-le-suc i)

-- the set of k alone, as the machine shifts it
pub bit_one : (k j : ℕ) → bit_at (1 * 2 ^ k) j ≡ eqb j k
unfolding bit_at
bit_one zero zero = refl
bit_one zero (suc j) = bit_none j ∙ sym (eqb-suc-zero j)
bit_one (suc k) zero = ap (λ (x : ℕ). eqb x 1) (shifted_even 1 k) ∙ sym (eqb-zero-suc k)
bit_one (suc k) (suc j) = ap (λ (x : ℕ). bit_at x j) (shifted_half 1 k) ∙ bit_one k j ∙ sym (eqb-suc-suc j k)

pub one_shifted : (k : ℕ) → k < 32 → (1 * 2 ^ k) % 2 ^ 32 ≡ 1 * 2 ^ k
one_shifted k h = shl_exact {a = 1} 1 k 32 (lit< tt) (omega arith)

-- a word shifted down
pub bit_shifted : (m i k : ℕ) → bit_at (m / 2 ^ i) k ≡ bit_at m (i + k)
unfolding bit_at
bit_shifted m zero k = rw (div-one, zero-add)
bit_shifted m (suc i) k = rw suc-add (ap (λ (x : ℕ). bit_at x k) (ap (λ (x : ℕ). m / 2 ^ x) (sym (one-add i)) ∙ sym (shr-shr m 1 i)) ∙ bit_shifted (m / 2) i k)

-- the test that the code makes
pub bit_is : (m k : ℕ) → bit_at m k ≡ eqb (m / 2 ^ k % 2) 1
unfolding bit_at
bit_is m k = ap (bit_at m) (sym (add-zero k)) ∙ sym (bit_shifted m k 0)

pub one_below : (k : ℕ) → k < 32 → 1 * 2 ^ k < 2 ^ 32
one_below k i = lt_of_lt_of_le (shl_lt 1 k (lit< tt)) (pow_mono {j = 32} (omega arith))

and_below : (a b : ℕ) → a < 2 ^ 32 → bit_and a b < 2 ^ 32
and_below a b h = lt_of_le_of_lt (and_le_l a b) h

-- what the machine computes for them
module _ (m k : ℕ) (h : m < 2 ^ 32) (i : k < 32) where
  pub adds : bit_or m ((1 * 2 ^ k) % 2 ^ 32) ≡ added m k
  unfolding added
  adds = rw (one_shifted k i) (set_is _ 32 _ (or_lt 32 m (1 * 2 ^ k) h (one_below k i)) (λ j b. bit_or_law m (1 * 2 ^ k) j ∙ ap (λ (x : Bool). bit_at m j || x) (bit_one k j)))

  pub removes : bit_and m ((2 ^ 32 - 1) - (1 * 2 ^ k) % 2 ^ 32) ≡ removed m k
  unfolding removed
  removes =
      rw (one_shifted k i)
      (set_is _ 32 _ (and_below m _ h) (λ j b. bit_and_law m ((2 ^ 32 - 1) - 1 * 2 ^ k) j
      ∙ ap (λ (x : Bool). bit_at m j && x) (bit_not 32 (1 * 2 ^ k) j (one_below k i) b ∙ ap not (bit_one k j))))

pub lessens : (a b : ℕ) → a < 2 ^ 32 → b < 2 ^ 32 → bit_and a ((2 ^ 32 - 1) - b) ≡ less a b
unfolding less
lessens a b g h = set_is _ 32 _ (and_below a _ g) (λ j i. bit_and_law a ((2 ^ 32 - 1) - b) j ∙ ap (λ (x : Bool). bit_at a j && x) (bit_not 32 b j h i))

-- a is within b where nothing is left of a without b
module _ (a b : ℕ) where
  nothing_left : eqb (less a b) 0 ≡ true → within a b ≡ true
  unfolding all_in
  nothing_left e = all_of _ 32 (λ k h. member (bit_at a k) (bit_at b k) (sym (bit_less a b k h) ∙ ap (λ (x : ℕ). bit_at x k) (eqb-true _ 0 e) ∙ bit_none k))
    where
      member : (x y : Bool) → x && not y ≡ false → not x || y ≡ true
      member true true e = refl
      member true false e = sym e
      member false y e = refl

  none_left : within a b ≡ true → eqb (less a b) 0 ≡ true
  unfolding less
  none_left e = eq-eqb _ 0 (sym (set_is _ 32 0 (pow_pos 32) (λ k h. bit_none k ∙ sym (gone (bit_at a k) (bit_at b k) (all_in_law (bit_at b) a e k h)))))
    where
      gone : (x y : Bool) → (x ≡ true → y ≡ true) → x && not y ≡ false
      gone true y f = rw (f refl)
      gone false y f = refl

  pub within_is : eqb (less a b) 0 ≡ within a b
  within_is = pick (eqb (less a b) 0) (within a b) nothing_left none_left
    where
      pick : (x y : Bool) → (x ≡ true → y ≡ true) → (y ≡ true → x ≡ true) → x ≡ y
      pick true y f g = sym (f refl)
      pick false true f g = g refl
      pick false false f g = refl

-- no number past a word's bits is a member
pub bit_past : (m n k : ℕ) → m < 2 ^ n → n ≤ k → bit_at m k ≡ false
unfolding bit_at
bit_past m zero k h l = rw (lt-one h) (bit_none k)
bit_past m (suc n) zero h l = absurd (omega arith)
bit_past m (suc n) (suc k) h l = bit_past (m / 2) n k (half_below m n h) (le_of_suc-le-suc l)

-- ---- the next member

-- the zeros below the lowest member
pub trailing_miss : (w m i : ℕ) → i < count_trailing_zeros w m → bit_at m i ≡ false
unfolding bit_at count_trailing_zeros
trailing_miss zero m i h = absurd (omega arith)
trailing_miss (suc w) m zero h = pick (m % 2) h
  where
    pick : (d : ℕ) → zero < under d (count_trailing_zeros w (m / 2)) → eqb d 1 ≡ false
    pick zero g = refl
    pick (suc d) g = absurd (omega arith)
trailing_miss (suc w) m (suc i) h = trailing_miss w (m / 2) i (pick (m % 2) h)
  where
    pick : (d : ℕ) → suc i < under d (count_trailing_zeros w (m / 2)) → i < count_trailing_zeros w (m / 2)
    pick zero g = omega arith
    pick (suc d) g = absurd (omega arith)

pub trailing_hit : (w m : ℕ) → count_trailing_zeros w m < w → bit_at m (count_trailing_zeros w m) ≡ true
unfolding bit_at count_trailing_zeros
trailing_hit zero m h = absurd (omega arith)
trailing_hit (suc w) m h = pick (trailing_hit w (m / 2)) (true_or_false (bit_at m 0))
  where
    under_at : m % 2 ≡ 0 → under (m % 2) (count_trailing_zeros w (m / 2)) ≡ suc (count_trailing_zeros w (m / 2))
    under_at e = rw e

    pick : (count_trailing_zeros w (m / 2) < w → bit_at (m / 2) (count_trailing_zeros w (m / 2)) ≡ true) → (bit_at m 0 ≡ true) ⊎ (bit_at m 0 ≡ false)
        → bit_at m (under (m % 2) (count_trailing_zeros w (m / 2))) ≡ true
    pick r (inl e) = rw (low_bit m, e) e
    pick r (inr e) =
        let z : m % 2 ≡ 0 = low_bit m ∙ ap (λ (b : Bool). cond b 1 0) e in
        let g : under (m % 2) (count_trailing_zeros w (m / 2)) < suc w = h in
        rw (under_at z) (r (omega (arith, under_at z)))

module _ (m from n : ℕ) (l : from ≤ n) (h : n < 32) where
  abbrev zeros : ℕ
  zeros = count_trailing_zeros 32 (m / 2 ^ from)

  miss : (i : ℕ) → from ≤ i → i < from + zeros → bit_at m i ≡ false
  miss i a b =
      sym (bit_shifted m from (i - from) ∙ ap (bit_at m) (omega arith))
      ∙ trailing_miss 32 (m / 2 ^ from) (i - from) (omega arith)

  pub next_is : from + zeros < n → Found (bit_at m) from n (from + zeros)
  next_is a = record {
    is = sym (first_known (bit_at m) from (n - from) (from + zeros) (omega arith) (omega arith) (sym (bit_shifted m from zeros) ∙ trailing_hit 32 (m / 2 ^ from) (omega arith)) miss);
    low = omega arith;
    high = omega arith;
  }

  pub next_none : n ≤ from + zeros → Found (bit_at m) from n n
  next_none a = record {
    is = sym (first_nothing (bit_at m) from (n - from) (λ i b c. miss i b (omega arith)) ∙ omega arith);
    low = l;
    high = omega arith;
  }
