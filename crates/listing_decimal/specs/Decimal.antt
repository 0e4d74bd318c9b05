-- Numbers in decimal: ASCII digits without leading zeros.
use Rattle.std.specs.Prelude.{ℕ, zero, suc, ◌+◌, ◌-◌, ◌*◌, ◌/◌, ◌%◌, ◌<◌, ◌≤◌, cond, List, [], ◌∷◌, ◌++◌, ◌≡◌, refl, ltb, length}
use Rattle.std.proofs.Common.{arith, ◌∙◌, length-append, ltb-true, ltb-false}
use Rattle.laws.specs.Choice.{cond_keeps}

abbrev pub digit : ℕ → ℕ
digit n = 48 + n % 10

-- The w lowest digits of n, most significant first.
unfoldable pub digits : ℕ → ℕ → List ℕ
digits zero n = []
digits (suc w) n = digits w (n / 10) ++ (digit n ∷ [])

-- The number of digits of n after its first, counted up to `most`.
unfoldable pub further : ℕ → ℕ → ℕ
further zero n = 0
further (suc most) n = cond (ltb n 10) 0 (suc (further most (n / 10)))

-- The number of digits of a 64-bit number.
abbrev pub width : ℕ → ℕ
width n = suc (further 19 n)

-- The digits of a number: "Numbers are decimal".
unfoldable pub decimal : ℕ → List ℕ
decimal n = digits (width n) n

-- A number and the byte after it.
abbrev pub field : ℕ → ℕ → List ℕ
field n mark = decimal n ++ (mark ∷ [])

-- ---- lengths
pub length_digits : (w n : ℕ) → length (digits w n) ≡ w
unfolding digits
length_digits zero n = refl
length_digits (suc w) n = length-append (digits w (n / 10)) (digit n ∷ []) ∙ omega (arith, length_digits w (n / 10))

pub length_decimal : (n : ℕ) → length (decimal n) ≡ width n
unfolding decimal
length_decimal n = length_digits (width n) n

pub length_field : (n mark : ℕ) → length (field n mark) ≡ width n + 1
length_field n mark = length-append (decimal n) (mark ∷ []) ∙ omega (arith, length_decimal n)

-- 10 to the power k.
unfoldable pub tens : ℕ → ℕ
tens zero = 1
tens (suc k) = 10 * tens k

pub further_most : (most n : ℕ) → further most n ≤ most
unfolding further
further_most zero n = omega arith
further_most (suc most) n =
    cond_keeps (λ (k : ℕ). k ≤ suc most) (ltb n 10) (λ _. omega arith) (λ _. omega (arith, further_most most (n / 10)))

pub decimal_short : (x : ℕ) → length (decimal x) ≤ 20
decimal_short x = omega (arith, length_decimal x, further_most 19 x)

-- A number below 10 to the power k + 1 has at most k digits after its first.
pub further_below : (most k n : ℕ) → n < tens (suc k) → further most n ≤ k
unfolding further tens
further_below zero k n h = omega arith
further_below (suc most) zero n h = cond_keeps (λ (i : ℕ). i ≤ 0) (ltb n 10) (λ _. omega arith) (λ e. omega (arith, ltb-false n 10 e))
further_below (suc most) (suc k) n h =
    cond_keeps (λ (i : ℕ). i ≤ suc k) (ltb n 10) (λ _. omega arith) (λ _. omega (arith, further_below most k (n / 10) (omega arith)))

-- ---- reading the digits back
-- The number that digits make if those before them make n.
unfoldable pub read_on : ℕ → List ℕ → ℕ
read_on n [] = n
read_on n (b ∷ l) = read_on (10 * n + (b - 48)) l

abbrev pub read_off : List ℕ → ℕ
read_off l = read_on 0 l

read_last : (n d : ℕ) (l : List ℕ) → read_on n (l ++ ((48 + d) ∷ [])) ≡ 10 * read_on n l + d
unfolding read_on
read_last n d [] = omega arith
read_last n d (b ∷ l) = read_last (10 * n + (b - 48)) d l

read_digits : (w n : ℕ) → n < tens w → read_off (digits w n) ≡ n
unfolding digits tens read_on
read_digits zero n h = omega arith
read_digits (suc w) n h = read_last 0 (n % 10) (digits w (n / 10)) ∙ omega (arith, read_digits w (n / 10) (omega arith))

enough : (most n : ℕ) → n < tens (suc most) → n < tens (suc (further most n))
unfolding further tens
enough zero n h = h
enough (suc most) n h =
    cond_keeps (λ (k : ℕ). n < tens (suc k)) (ltb n 10) (λ e. omega (arith, ltb-true n 10 e)) (λ _. omega (arith, enough most (n / 10) (omega arith)))

-- The digits of a 64-bit number make that number.
pub read_back : (n : ℕ) → n < tens 20 → read_off (decimal n) ≡ n
unfolding decimal
read_back n h = read_digits (width n) n (enough 19 n h)
