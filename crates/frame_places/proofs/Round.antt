-- Laying out fields and reading them are inverse to each other.
use Rattle.std.specs.Prelude.{ℕ, List, ◌≡◌, length}
use Rattle.std.proofs.Common.{arith, append_assoc, sym}
use Rattle.bytes_layout.specs.Number.{little_endian, bytes_of, bytes_at, Bytes}
use Rattle.bytes_layout.proofs.Number.{read_back, four_then, number_then, number_last}
use Rattle.message_fields.specs.declared.Fields.{Fields}
use Rattle.frame_places.specs.Places.{numbers, laid, fields_in}
use Rattle.frame_places.specs.Round.{FieldsFit}

-- Fields that are laid out and read back are the same.
pub fields_back : (f : Fields) → FieldsFit f → fields_in (laid f) ≡ f
unfolding fields_in laid numbers little_endian bytes_of bytes_at
fields_back f h =
    rw (
      read_back 4 f.number h.number,
      read_back 4 f.volume_expiry h.volume_expiry,
      read_back 4 f.epoch h.epoch,
      read_back 4 f.version h.version,
      read_back 4 f.object_expiry h.object_expiry,
      read_back 8 f.value h.value,
    )

-- A frame that is read and laid out again has the same bytes.
pub laid_back : (l : List ℕ) → Bytes l → length l ≡ 32 → laid (fields_in l) ≡ l
unfolding laid numbers fields_in
laid_back l b h =
    simp append_assoc (rw (
      number_last l b 24 8 (sym h),
      number_then l b 20 4 (omega arith),
      number_then l b 16 4 (omega arith),
      number_then l b 12 4 (omega arith),
      number_then l b 8 4 (omega arith),
      number_then l b 4 4 (omega arith),
    ) (four_then l (omega arith)))
