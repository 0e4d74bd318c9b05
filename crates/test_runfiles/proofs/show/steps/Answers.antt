use Rattle.std.proofs.Common.{arith}
use Rattle.file_shape.specs.Places.{place_next, record_there, place_ends}
use Rattle.file_reader.specs.Reading.{accepted}
use Rattle.test_runfiles.proofs.show.steps.Goals as goal

pub loop-k-init : goal.loop-k-init
loop-k-init g c = (accepted _ _ c.in-Ok.ensures).starts

pub overflow_add-place : goal.overflow_add-place
overflow_add-place g c =
    let r = accepted _ _ c.in-Ok.ensures in
    omega (arith, record_there _ _ _ c.loop-k.invariant r.parts _ r.counted c.loop-k-test.true, r.parts.short)

pub loop-k-preserved : goal.loop-k-preserved
loop-k-preserved g c = place_next _ _ _ c.loop-k.invariant

-- After the last record, the running place is the trailer's.
pub after_last-requires : goal.after_last-requires
after_last-requires g c =
    let r = accepted _ _ c.in-Ok.ensures in
    place_ends _ _ _ c.loop-k.invariant r.parts _ r.counted (omega arith) c.loop-k-test.false
