use Rattle.std.proofs.Common.{ℕ, ◌*◌, ◌<◌, ◌≤◌, arith}
use Rattle.std.proofs.Math.Nat.{mul-le-mul_right, le_of_lt}

-- a byte times a 32-bit number is at most 2 to the power of 40
pub byte_times : (a b : ℕ) → a < 256 → b < 4294967296 → a * b ≤ 1099511627776
byte_times a b h k = let m = mul-le-mul_right b (le_of_lt h) in omega arith
