-- The library's bytes of a number, and its number of bytes, agree with the definitions.
use Rattle.std.specs.Prelude.{ℕ, ◌/◌, List, ◌≡◌}
use Rattle.std.proofs.Common.{arith, ◌∙◌}
use Rattle.std.specs.Int.{w32, w64, to_le_bytes, from_le_bytes}
use Rattle.bytes_layout.specs.Number.{little_endian, bytes_of, bytes_at, number_at, Stored}
use Rattle.bytes_layout.specs.Written.{Written}

module _ (l b : List ℕ) (p r : ℕ) where
  pub four : b ≡ bytes_at l p 4 → r ≡ from_le_bytes w32 b → r ≡ number_at l p 4
  unfolding little_endian bytes_at
  four e f =
      let g = rw e at f in
      omega arith

  pub eight : b ≡ bytes_at l p 8 → r ≡ from_le_bytes w64 b → r ≡ number_at l p 8
  unfolding little_endian bytes_at
  eight e f =
      let g = rw e at f in
      omega arith

module _ (x : ℕ) where
  two : x / 256 / 256 ≡ x / 65536
  two = omega arith

  three : x / 65536 / 256 ≡ x / 16777216
  three = omega arith

  bytes_four : to_le_bytes w32 x ≡ bytes_of 4 x
  unfolding bytes_of
  bytes_four = rw (two, three)

  bytes_eight : to_le_bytes w64 x ≡ bytes_of 8 x
  unfolding bytes_of
  bytes_eight =
      let four : x / 16777216 / 256 ≡ x / 4294967296 = omega arith in
      let five : x / 4294967296 / 256 ≡ x / 1099511627776 = omega arith in
      let six : x / 1099511627776 / 256 ≡ x / 281474976710656 = omega arith in
      let seven : x / 281474976710656 / 256 ≡ x / 72057594037927936 = omega arith in
      rw (two, three, four, five, six, seven)

  module _ (l m b : List ℕ) (p q : ℕ) (w : Written l m p b q) where
    pub store_four : b ≡ to_le_bytes w32 x → Stored l m p (bytes_of 4 x)
    store_four e = rw (e ∙ bytes_four) at w.bytes

    pub store_eight : b ≡ to_le_bytes w64 x → Stored l m p (bytes_of 8 x)
    store_eight e = rw (e ∙ bytes_eight) at w.bytes
