-- The three cases of `stop_of`: within the list, at its end, or at once.
use Prim.Native.Nat.{ℕ, ◌+◌, ◌-◌, ◌≤◌, ◌<◌}
use mathlib.Core.Path.{◌≡◌}
use borrow.Author.Tests.{lt-ltb, le-ltb}
use Rattle.client_sweeps.specs.Places.{stop_of}

module _ (first n len : ℕ) where
  pub stop_within : first < len → n < len - first → first + n ≡ stop_of first n len
  unfolding stop_of
  stop_within h k = rw (lt-ltb _ _ h, lt-ltb _ _ k)

  pub stop_end : first < len → len - first ≤ n → len ≡ stop_of first n len
  unfolding stop_of
  stop_end h k = rw (lt-ltb _ _ h, le-ltb _ _ k)

  pub stop_none : len ≤ first → first ≡ stop_of first n len
  unfolding stop_of
  stop_none h = rw (le-ltb _ _ h)
