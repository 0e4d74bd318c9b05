-- 01, "Frame, run file and listing": the layout of a message's fields in a frame.
use Rattle.std.specs.Prelude.{ℕ, List, ◌++◌, get_or}
use Rattle.bytes_layout.specs.Number.{bytes_of, number_at, four_bytes}
use Rattle.message_fields.specs.declared.Fields.{Fields}
use Rattle.message_fields.specs.Fields.{row}

-- "A frame is 32 bytes"
abbrev pub FRAME : ℕ
FRAME = 32

-- "A frame is 32 bytes, little endian: kind .., dash, object .., value present .., one byte each"
abbrev pub head : Fields → List ℕ
head f = four_bytes f.kind f.client f.object f.present

-- "number, volume expiry, epoch, version, object expiry"
unfoldable pub numbers : Fields → List ℕ
numbers f = bytes_of 4 f.number ++ (bytes_of 4 f.volume_expiry ++ (bytes_of 4 f.epoch ++ (bytes_of 4 f.version ++ bytes_of 4 f.object_expiry)))

-- "A frame is 32 bytes": the head, the numbers and the "value in 8 bytes"
unfoldable pub laid : Fields → List ℕ
laid f = head f ++ (numbers f ++ bytes_of 8 f.value)

-- The fields in a frame's bytes: "kind .., dash, object .., value present .., number, volume expiry, epoch, version, object expiry; value in 8 bytes".
unfoldable pub fields_in : List ℕ → Fields
fields_in l =
    row (get_or l 0 0) (get_or l 1 0) (get_or l 2 0) (get_or l 3 0) (number_at l 4 4) (number_at l 8 4) (number_at l 12 4) (number_at l 16 4) (number_at l 20 4)
    (number_at l 24 8)
