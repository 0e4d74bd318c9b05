use borrow.Author.Rules.{rules}
use native.Mathlib.Omega.{arith}
use native.Mathlib.Nat.{sub-zero}
use Rattle.file_shape.specs.Places.{place_starts, place_next, record_there}
use Rattle.file_shape.proofs.Laws.{steps_again, steps_end}
use Rattle.file_shape.proofs.steps_fit.Goals as goal

pub loop-k-init : goal.loop-k-init
loop-k-init c = (search place_starts, (search rules, rw sub-zero))

pub step_in-requires : goal.step_in-requires
step_in-requires c = search record_there

pub overflow_add-place-in-loop-k : goal.overflow_add-place-in-loop-k
overflow_add-place-in-loop-k c =
    let p = c.requires in
    omega (arith, record_there _ _ _ c.loop-k.invariant.0 p _ c.count_of-k-end.ensures c.loop-k-test.true, p.short)

pub loop-k-preserved : goal.loop-k-preserved
loop-k-preserved c = (search place_next, search steps_again)

pub returns : goal.returns
returns c = search steps_end
