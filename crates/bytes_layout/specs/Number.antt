-- Numbers of any width in bytes, lowest byte first (01: "little endian").
use Rattle.std.specs.Prelude.{ℕ, zero, suc, ◌+◌, ◌*◌, ◌/◌, ◌%◌, ◌<◌, List, [], ◌∷◌, ◌≡◌, length, get_or}
use Rattle.std.proofs.lemmas.List.Edits.{sets}

-- the number that these bytes encode, "little endian"
unfoldable pub little_endian : List ℕ → ℕ
little_endian [] = 0
little_endian (b ∷ l) = b + 256 * little_endian l

-- the w lowest bytes of n, "little endian"
unfoldable pub bytes_of : ℕ → ℕ → List ℕ
bytes_of zero n = []
bytes_of (suc w) n = n % 256 ∷ bytes_of w (n / 256)

-- 256 to the power of w: numbers of w bytes are below it
unfoldable pub limit : ℕ → ℕ
limit zero = 1
limit (suc w) = 256 * limit w

-- the w bytes of l from offset p on; bytes past the end of l read as 0
unfoldable pub bytes_at : List ℕ → ℕ → ℕ → List ℕ
bytes_at l p zero = []
bytes_at l p (suc w) = get_or l p 0 ∷ bytes_at l (p + 1) w

-- the number encoded in the w bytes at offset p
abbrev pub number_at : List ℕ → ℕ → ℕ → ℕ
number_at l p w = little_endian (bytes_at l p w)

-- four bytes as a list
abbrev pub four_bytes : ℕ → ℕ → ℕ → ℕ → List ℕ
four_bytes a b c d = a ∷ (b ∷ (c ∷ (d ∷ [])))

-- every element is a byte
abbrev pub Bytes : List ℕ → Type 0
Bytes l = (i : ℕ) → get_or l i 0 < 256

-- m is l with the bytes b stored at offset p, and has the same length: what a store promises its caller
pub record Stored (l m : List ℕ) (p : ℕ) (b : List ℕ) : Type 0 where
  pub stored : m ≡ sets l p b
  pub long : length m ≡ length l
