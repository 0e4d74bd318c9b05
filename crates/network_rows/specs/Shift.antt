-- Elements of one field that move down in a list, so that a gap closes.
use Rattle.std.specs.Prelude.{ℕ, ◌+◌, List, get_or}
use Rattle.laws.specs.Store.{store_each, always}

-- `Rattle.laws.specs.Shift.shifting` for elements of any type; d stands for an element past the end of the list
abbrev pub shifting_of : {A : Type 0} → A → ℕ → ℕ → ℕ → ℕ → List A → List A
shifting_of d field from n wide w = store_each always (λ (j : ℕ). field + (from + j)) (λ (j : ℕ). get_or w (field + (from + j + wide)) d) w n
