use Prim.Native.Nat.{◌/◌, ◌^◌}
use native.Mathlib.Nat.{lt_of_le_of_lt}
use native.Mathlib.Omega.{arith}
use lib.Count.{trailing_le}
use lib.Dec.{lit<}
use Rattle.sets.specs.Words.{next_is, next_none}
use Rattle.sets.proofs.next.Goals as goal

pub overflow_cast-place-2 : goal.overflow_cast-place-2
overflow_cast-place-2 c = record { fits = lt_of_le_of_lt (trailing_le 32 _) (lit< tt) }

pub overflow_add-place : goal.overflow_add-place
overflow_add-place c = let a = c.args in omega (arith, trailing_le 32 (a.m / 2 ^ a.from))

pub returns-then-n-place : goal.returns-then-n-place
returns-then-n-place c = search next_none

pub returns : goal.returns
returns c = search next_is
