use native.Mathlib.Omega.{arith}
use mathlib.Core.Path.{refl, ◌∙◌}
use Rattle.state_words.proofs.SavedLaws.{fresh_machine_law}
use Rattle.file_shape.specs.Places.{place_next, record_there}
use Rattle.file_reader.specs.Reading.{accepted}
use Rattle.run.specs.Ran.{run_starts, run_ends, line_fits, run_again}
use Rattle.run.proofs.steps.run_steps.Goals as goal

pub loop-k-init : goal.loop-k-init
loop-k-init c =
    let r = accepted _ _ c.requires.c_value in
    let fresh = fresh_machine_law _ _ _ _ r.in_range_law (c.fresh.ensures.values_after, c.fresh.ensures.values_after_2) in
    (r.starts, (refl, run_starts _ _ _ _ r.in_range_law _ fresh))

pub advance-answer-requires : goal.advance-answer-requires
advance-answer-requires c = record {
  setup_value = (accepted _ _ c.requires.c_value).in_range_law;
  sound_machine = c.loop-k.invariant.1.1.sound;
}

pub overflow_add-k : goal.overflow_add-k
overflow_add-k c =
    let r = accepted _ _ c.requires.c_value in
    omega (arith, c.loop-k-test.true, r.parts.few, r.counted)

pub write_line-next-requires : goal.write_line-next-requires
write_line-next-requires c =
    let r = accepted _ _ c.requires.c_value in
    line_fits _ _ _ _ r.parts _ r.counted _ _ _ _ c.loop-k.invariant.1.1 c.loop-k-test.true c.requires.count_in_bounds c.loop-k.invariant.1.0

pub overflow_add-place : goal.overflow_add-place
overflow_add-place c =
    let r = accepted _ _ c.requires.c_value in
    omega (arith, record_there _ _ _ c.loop-k.invariant.0 r.parts _ r.counted c.loop-k-test.true, r.parts.short)

pub loop-k-preserved : goal.loop-k-preserved
loop-k-preserved c =
    let r = accepted _ _ c.requires.c_value in (
      place_next _ _ _ c.loop-k.invariant.0,
      (
        c.write_line-next.ensures.bytes.long ∙ c.loop-k.invariant.1.0,
        run_again _ _ _ _ r.parts _ r.counted _ _ _ _ c.loop-k.invariant.1.1 c.loop-k-test.true r.in_range_law _ c.loop-k.invariant.0
            _ c.step_at-step.ensures _ _ c.advance-answer.ensures _ _ (rw c.from.ensures at c.write_line-next.ensures),
      ),
    )

pub returns : goal.returns
returns c =
    let r = accepted _ _ c.requires.c_value in
    run_ends _ _ _ _ r.parts _ r.counted _ _ _ _ c.loop-k.invariant.1.1 c.loop-k-test.false
