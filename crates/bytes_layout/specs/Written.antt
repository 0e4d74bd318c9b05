-- Writing bytes to a lent output in order.
use Rattle.std.specs.Prelude.{ℕ, ◌+◌, List, ◌≡◌, length}
use Rattle.bytes_layout.specs.Number.{Stored}

-- m is l with the bytes b stored at offset p, and r is the offset after them
pub record Written (l m : List ℕ) (p : ℕ) (b : List ℕ) (r : ℕ) : Type 0 where
  pub next : r ≡ p + length b
  pub bytes : Stored l m p b
