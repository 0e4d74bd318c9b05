-- The number of records fits in 64 bits.
use Rattle.std.specs.Prelude.{ℕ, zero, suc, ◌*◌, ◌^◌, ◌≤◌, ◌<◌}
use Rattle.std.proofs.Common.{arith}

-- the product of two 32-bit counts fits in 64 bits
pub mul_fits : (a b : ℕ) → a < 4294967296 → b < 4294967296 → a * b < 2 ^ 64
mul_fits a b h k = omega (arith, mul_most a b 4294967295 (omega arith))
  where
    mul_most : (c o m : ℕ) → o ≤ m → c * o ≤ c * m
    mul_most zero o m h = omega arith
    mul_most (suc c) o m h = omega (arith, mul_most c o m h)
