-- A message's ten fields as numbers, in the frame's order.
use Rattle.std.specs.Prelude.{ℕ, List, [], ◌∷◌, get_or}
use Rattle.message_fields.specs.declared.Fields.{Fields}
use Rattle.message_fields.specs.Fields.{row}

abbrev pub numbers_of : Fields → List ℕ
numbers_of f =
    f.kind ∷ f.client ∷ f.object ∷ f.present ∷ f.number ∷ f.volume_expiry ∷ f.epoch ∷ f.version ∷ f.object_expiry ∷ f.value ∷ []

-- The fields of a frame, from the four bytes of its head, its five numbers and its value.
abbrev pub fields_from : List ℕ → List ℕ → ℕ → Fields
fields_from head numbers value =
    row (get_or head 0 0) (get_or head 1 0) (get_or head 2 0) (get_or head 3 0)
    (get_or numbers 0 0) (get_or numbers 1 0) (get_or numbers 2 0) (get_or numbers 3 0) (get_or numbers 4 0) value
