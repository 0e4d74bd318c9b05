-- Lemmas cited by the function proofs: each derives a postcondition or a loop invariant from the facts of one path or iteration.
use Prim.Native.Nat.{ℕ, zero, suc, ◌+◌, ◌-◌, ◌*◌, ◌/◌, ◌^◌, ◌<◌, ◌≤◌}
use Rattle.std.specs.Prelude.{Option, None, Some, IfNone, IfSome, unwrap_or}
use Rattle.std.proofs.Common.{ap}
use Rattle.std.proofs.Math.Nat.{pow-succ', one-le-pow}
use native.Mathlib.Omega.{arith}
use mathlib.Core.List.{List, [], ◌∷◌}
use mathlib.Core.Path.{◌≡◌, refl, ◌∙◌}
use lib.ListN.{length, set, length-set}
use lib.Seq.{sets}
use borrow.Author.Tests.{lt-ltb, le-ltb}
use Rattle.bytes_layout.proofs.Number.{sets_then}
use Rattle.listing_decimal.specs.Decimal.{digit, digits, further, width, decimal, field, length_digits, length_decimal, decimal_short}
use Rattle.bytes_layout.specs.Written.{Written}
use Rattle.bytes_layout.proofs.Written.{written_then, sets_past}

-- ---- the number of digits
pub further_is : (most k n : ℕ) → k ≤ most → 10 ^ k ≤ n → n < 10 * 10 ^ k → further most n ≡ k
unfolding further
further_is zero k n h a b = omega arith
further_is (suc most) zero n h a b = rw (lt-ltb n 10 (omega (arith, b)))
further_is (suc most) (suc k) n h a b =
    let e : 10 ^ suc k ≡ 10 * 10 ^ k = pow-succ' 10 k in
    let p : 1 ≤ 10 ^ k = one-le-pow k 10 (omega arith) in
    rw (le-ltb n 10 (omega arith)) (ap suc (further_is most k (n / 10) (omega arith) (omega arith) (omega arith)))

pub width_is : (n : ℕ) (k : Option ℕ) → IfNone k (n ≡ 0) → IfSome k (λ j. 10 ^ j ≤ n) → IfSome k (λ j. n < 10 * 10 ^ j) → IfSome k (λ j. j < 20)
    → unwrap_or k 0 + 1 ≡ width n
unfolding further
width_is n None z a b c = rw z refl
width_is n (Some j) z a b c = rw (further_is 19 j n (omega (arith, c)) a b) (omega arith)

-- ---- the loop that writes digits, the last one first
module _ (l : List ℕ) (p y : ℕ) where
  last_first : (m : ℕ) → sets (set l (p + m) (digit y)) p (digits m (y / 10)) ≡ sets l p (digits (suc m) y)
  unfolding digits
  last_first m =
      let k : length (digits m (y / 10)) ≡ m = length_digits m (y / 10) in
      sets_past l p (p + m) (digit y) (digits m (y / 10)) (omega (arith, k)) ∙ (rw k at (sets_then l p (digits m (y / 10)) (digit y ∷ [])))

  pub digit_again : (n d : ℕ) (A : List ℕ) → 0 < n → d ≡ digit y → sets l p (digits n y) ≡ A → sets (set l (p + (n - 1)) d) p (digits (n - 1) (y / 10)) ≡ A
  digit_again n d A h e i =
      let f : n ≡ suc (n - 1) = omega arith in
      rw e (last_first (n - 1) ∙ (rw f at i))

  pub digits_written : (l₀ : List ℕ) (n x r : ℕ) → r ≡ width x
      → length l ≡ length l₀ → n ≤ 0 → sets l p (digits n y) ≡ sets l₀ p (digits r x) → Written l₀ l p (decimal x) (p + r)
  unfolding digits decimal
  digits_written l₀ n x r e k h i =
      let z : n ≡ 0 = omega arith in
      record { next = omega (arith, length_decimal x); bytes = record { stored = (rw z at i) ∙ rw e; long = k } }

-- ---- the byte after a number
module _ (l m : List ℕ) (p x r : ℕ) where
  pub after_number : Written l m p (decimal x) r → p + 21 ≤ length l → r < length m
  after_number w h = omega (arith, decimal_short x, w.next, w.bytes.long)

  pub field_written : (mark : ℕ) → Written l m p (decimal x) r → Written l (set m r mark) p (field x mark) (r + 1)
  field_written mark w =
      written_then l m (set m r mark) p r (r + 1) (decimal x) (mark ∷ []) w
      (record { next = refl; bytes = record { stored = refl; long = length-set m r mark } })
