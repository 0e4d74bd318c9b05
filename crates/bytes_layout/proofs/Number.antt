-- Numbers of any width in bytes, lowest byte first (01: "little endian").
use Rattle.std.specs.Prelude.{ℕ, zero, suc, ◌+◌, ◌*◌, ◌/◌, ◌%◌, ◌<◌, ◌≤◌, List, [], ◌∷◌, ◌++◌, ◌≡◌, refl, length, get_or, set, drop}
use Rattle.std.proofs.Common.{add-zero, add-one, arith, append-nil, sym, ap, ◌∙◌, drop-cons}
use Rattle.std.proofs.lemmas.List.Edits.{sets}
use Rattle.std.proofs.Math.Seq.{drop-length}
use Rattle.bytes_layout.specs.Number.{little_endian, bytes_of, limit, bytes_at, number_at, four_bytes, Bytes, Stored}

pub length_bytes : (w n : ℕ) → length (bytes_of w n) ≡ w
unfolding bytes_of
length_bytes zero n = refl
length_bytes (suc w) n = ap suc (length_bytes w (n / 256))

-- two adjacent stores are one store of all their bytes
pub sets_then : (l : List ℕ) (p : ℕ) (a b : List ℕ) → sets (sets l p a) (p + length a) b ≡ sets l p (a ++ b)
sets_then l p [] b = rw add-zero
sets_then l p (x ∷ a) b =
    let e : p + length (x ∷ a) ≡ suc p + length a = omega arith in
    rw e (sets_then (set l p x) (suc p) a b)

pub stored_then : (l m r : List ℕ) (p q : ℕ) (a b : List ℕ) → Stored l m p a → Stored m r q b → p + length a ≡ q → Stored l r p (a ++ b)
stored_then l m r p q a b f g e = record { stored = g.stored ∙ rw (f.stored, ← e) (sets_then l p a b); long = g.long ∙ f.long }

-- the same, where the first store writes a number
pub number_stored : (l m r : List ℕ) (p w n : ℕ) (b : List ℕ) → Stored l m p (bytes_of w n) → Stored m r (p + w) b → Stored l r p (bytes_of w n ++ b)
number_stored l m r p w n b f g = stored_then l m r p (p + w) (bytes_of w n) b f g (rw length_bytes)

-- a number that fits in w bytes reads back as it was written
pub read_back : (w n : ℕ) → n < limit w → little_endian (bytes_of w n) ≡ n
unfolding little_endian bytes_of limit
read_back zero n h = omega arith
read_back (suc w) n h = rw (read_back w (n / 256) (omega arith)) (omega arith)

-- writing a number that was read restores its bytes
pub write_back : (l : List ℕ) → Bytes l → (p w : ℕ) → bytes_of w (number_at l p w) ≡ bytes_at l p w
unfolding little_endian bytes_of bytes_at
write_back l b p zero = refl
write_back l b p (suc w) = split (get_or l p 0) (number_at l (p + 1) w) (b p) (write_back l b (p + 1) w)
  where
    split : (x n : ℕ) → x < 256 → bytes_of w n ≡ bytes_at l (p + 1) w → (x + 256 * n) % 256 ∷ bytes_of w ((x + 256 * n) / 256) ≡ x ∷ bytes_at l (p + 1) w
    split x n h e =
        let low : (x + 256 * n) % 256 ≡ x = omega arith in
        let high : (x + 256 * n) / 256 ≡ n = omega arith in
        rw (low, high, e)

-- the number in w bytes is below their limit
pub number_below : (l : List ℕ) → Bytes l → (p w : ℕ) → number_at l p w < limit w
unfolding little_endian bytes_at limit
number_below l b p zero = omega arith
number_below l b p (suc w) = omega (arith, b p, number_below l b (p + 1) w)

-- the w bytes at p, followed by the rest of the list, are the list from p on
pub bytes_then : (l : List ℕ) (p w : ℕ) → p + w ≤ length l → bytes_at l p w ++ drop (p + w) l ≡ drop p l
unfolding bytes_at
bytes_then l p zero h = rw add-zero
bytes_then l p (suc w) h =
    let one : p + suc w ≡ p + 1 + w = omega arith in
    let here : p < length l = omega arith in
    rw one (ap (◌∷◌ (get_or l p 0)) (bytes_then l (p + 1) w (omega arith)) ∙ rw add-one (sym (drop-cons l p 0 here)))

pub four_then : (l : List ℕ) → 4 ≤ length l → four_bytes (get_or l 0 0) (get_or l 1 0) (get_or l 2 0) (get_or l 3 0) ++ drop 4 l ≡ l
four_then l h =
    rw (← drop-cons l 3 0 (omega arith), ← drop-cons l 2 0 (omega arith), ← drop-cons l 1 0 (omega arith), ← drop-cons l 0 0 (omega arith))

-- the same, where the bytes are written back from their number
pub number_then : (l : List ℕ) → Bytes l → (p w : ℕ) → p + w ≤ length l → bytes_of w (number_at l p w) ++ drop (p + w) l ≡ drop p l
number_then l b p w h = rw (write_back l b p w) (bytes_then l p w h)

-- .. and where the list ends with that number
pub number_last : (l : List ℕ) → Bytes l → (p w : ℕ) → p + w ≡ length l → bytes_of w (number_at l p w) ≡ drop p l
number_last l b p w h =
    let none : drop (p + w) l ≡ [] = rw h (drop-length l) in
    sym (append-nil _) ∙ (rw none at (number_then l b p w (omega arith)))
