-- Places in the list of all copies.
use Rattle.std.specs.Prelude.{ℕ, ◌+◌, ◌-◌, cond, ltb}

-- where n places from `first` on end, cut off at the end of a list of length `len`; `first` if there are none
unfoldable pub stop_of : ℕ → ℕ → ℕ → ℕ
stop_of first n len = cond (ltb first len) (cond (ltb n (len - first)) (first + n) len) first
