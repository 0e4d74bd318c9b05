-- Lemmas cited by the function proofs: each derives a postcondition from what the calls returned.
use Prim.Native.Nat.{ℕ}
use mathlib.Core.List.{List}
use mathlib.Core.Path.{◌≡◌, refl}
use lib.ListN.{get_or}
use Rattle.bytes_layout.specs.Number.{bytes_of, number_at, Stored}
use Rattle.bytes_layout.proofs.Number.{stored_then, number_stored}
use Rattle.message_fields.specs.declared.Fields.{Fields}
use Rattle.message_fields.specs.Fields.{row}
use Rattle.frame_places.specs.Places.{head, numbers, laid, fields_in}

-- The fields, assembled from what the calls returned.
pub read_by : (l : List ℕ) (n x e v y w : ℕ) → n ≡ number_at l 4 4 → x ≡ number_at l 8 4 → e ≡ number_at l 12 4 → v ≡ number_at l 16 4 → y ≡ number_at l 20 4
    → w ≡ number_at l 24 8 → row (get_or l 0 0) (get_or l 1 0) (get_or l 2 0) (get_or l 3 0) n x e v y w ≡ fields_in l
unfolding fields_in
read_by l n x e v y w a b c d f g = rw (a, b, c, d, f, g)

-- Five stores in a row write the five numbers.
pub numbers_stored : (f : Fields) (l a b c d r : List ℕ) → Stored l a 4 (bytes_of 4 f.number) → Stored a b 8 (bytes_of 4 f.volume_expiry)
    → Stored b c 12 (bytes_of 4 f.epoch) → Stored c d 16 (bytes_of 4 f.version) → Stored d r 20 (bytes_of 4 f.object_expiry) → Stored l r 4 (numbers f)
unfolding numbers
numbers_stored f l a b c d r g h i j k =
    number_stored l a r 4 4 _ _ g (number_stored a b r 8 4 _ _ h (number_stored b c r 12 4 _ _ i (number_stored c d r 16 4 _ _ j k)))

-- Storing head, numbers and value in turn writes the whole frame.
pub all_stored : (f : Fields) (l m n r : List ℕ) → Stored l m 0 (head f) → Stored m n 4 (numbers f) → Stored n r 24 (bytes_of 8 f.value) → Stored l r 0 (laid f)
unfolding laid numbers bytes_of
all_stored f l m n r a b c = stored_then l m r 0 4 (head f) _ a (stored_then m n r 4 24 (numbers f) _ b c refl) refl
