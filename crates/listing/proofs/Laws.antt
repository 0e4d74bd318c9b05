-- Lemmas cited by the function proofs: each derives a postcondition from what the calls returned.
use Prim.Native.Nat.{ℕ, ◌+◌, ◌≤◌}
use native.Mathlib.Omega.{arith}
use mathlib.Core.List.{List, [], ◌∷◌, ◌++◌}
use mathlib.Core.Path.{◌≡◌}
use lib.ListN.{length, length-append}
use Rattle.protocol.specs.declared.step.Answer.{Answer}
use Rattle.protocol.specs.Answers.{answer_number, answer_value}
use Rattle.listing_decimal.specs.Decimal.{decimal, field, decimal_short}
use Rattle.bytes_layout.specs.Written.{Written}
use Rattle.bytes_layout.proofs.Written.{written_then}
use Rattle.listing.specs.Listing.{line, line_of, header, refused_listing, length_header}

-- ---- a line
module _ (l m : List ℕ) (p x r : ℕ) where
  after_field : (mark : ℕ) → Written l m p (field x mark) r → (r ≤ p + 21) × (length m ≡ length l)
  after_field mark w = (omega (arith, decimal_short x, w.next, length-append (decimal x) (mark ∷ [])), w.bytes.long)

pub line_written : (k l m n : List ℕ) (p q r e a b c : ℕ) → Written k l p (field a 32) q → Written l m q (field b 32) r → Written m n r (field c 10) e
    → Written k n p (line a b c) e
unfolding line
line_written k l m n p q r e a b c u v w =
    written_then k l n p q e (field a 32) (field b 32 ++ field c 10) u (written_then l m n q r e (field b 32) (field c 10) v w)

pub second_fits : (k l : List ℕ) (p q a : ℕ) → p + 63 ≤ length k → Written k l p (field a 32) q → q + 21 ≤ length l
second_fits k l p q a h u = omega (arith, after_field k l p a q 32 u)

pub third_fits : (k l m : List ℕ) (p q r a b : ℕ) → p + 63 ≤ length k → Written k l p (field a 32) q → Written l m q (field b 32) r → r + 21 ≤ length m
third_fits k l m p q r a b h u v = omega (arith, after_field k l p a q 32 u, after_field l m q b r 32 v)

pub answer_written : (l m : List ℕ) (p step e n v : ℕ) (a : Answer) → n ≡ answer_number a → v ≡ answer_value a → Written l m p (line step n v) e
    → Written l m p (line_of step a) e
answer_written l m p step e n v a f g w = rw (← f, ← g) w

pub refused_fits : (k l : List ℕ) (p q : ℕ) → p + 81 ≤ length k → Written k l p header q → q + 63 ≤ length l
refused_fits k l p q h u = omega (arith, u.next, u.bytes.long, length_header)

pub refused_written : (k l m : List ℕ) (p q e : ℕ) → Written k l p header q → Written l m q (line 0 4 9) e → Written k m p refused_listing e
refused_written k l m p q e u v = written_then k l m p q e header (line 0 4 9) u v
