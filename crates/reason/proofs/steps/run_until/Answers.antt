use native.Mathlib.Omega.{arith}
use Rattle.state_words.proofs.SavedLaws.{fresh_machine_law}
use Rattle.file_shape.specs.Places.{place_next}
use Rattle.reason.specs.Followed.{follow_starts, follow_sound}
use Rattle.reason.proofs.Laws.{facts, in_range_law, client_there, object_there, named, again, ends, place_small}
use Rattle.reason.proofs.steps.run_until.Goals as goal

pub loop-k-init : goal.loop-k-init
loop-k-init c =
    let fresh = fresh_machine_law _ _ _ _ (in_range_law c.requires) (c.fresh.ensures.values_after, c.fresh.ensures.values_after_2) in
    ((facts c.requires).starts, follow_starts _ _ _ _ fresh _ c.no_events-lasts.ensures)

pub request_of-request-requires : goal.request_of-request-requires
request_of-request-requires c = in_range_law c.requires

pub copy_of-before-requires : goal.copy_of-before-requires
copy_of-before-requires c = in_range_law c.requires

pub advance-answer-requires : goal.advance-answer-requires
advance-answer-requires c = record {
  setup_value = in_range_law c.requires;
  sound_machine = follow_sound _ _ _ (in_range_law c.requires) _ _ _ c.loop-k.invariant.1;
}

pub copy_of-after-requires : goal.copy_of-after-requires
copy_of-after-requires c = in_range_law c.requires

pub follow-lasts-requires : goal.follow-lasts-requires
follow-lasts-requires c =
    named c.requires _ _ _ c.loop-k.invariant.1 c.loop-k-test.true _ c.loop-k.invariant.0 _ c.step_at-step.ensures _ c.advance-answer.ensures.answers

pub overflow_add-place : goal.overflow_add-place
overflow_add-place c = omega (arith, place_small c.requires _ _ c.loop-k.invariant.0 (omega (arith, c.loop-k-test.true)))

pub loop-k-preserved : goal.loop-k-preserved
loop-k-preserved c = (
  place_next _ _ _ c.loop-k.invariant.0,
  again c.requires _ _ _ c.loop-k.invariant.1 c.loop-k-test.true _ c.loop-k.invariant.0 _ c.step_at-step.ensures _ c.target_at-at.ensures _ _ c.advance-answer.ensures
      _ c.request_of-request.ensures _ _ c.copy_of-before.ensures c.copy_of-after.ensures
      _ c.event-e.ensures _ c.latest.ensures _ c.follow-lasts.ensures,
)

pub reason_by-reason-requires : goal.reason_by-reason-requires
reason_by-reason-requires c = record {
  setup_value = in_range_law c.requires;
  client_lt_clients = client_there c.requires;
  object_lt_objects = object_there c.requires;
}

pub advance-answer-requires-2 : goal.advance-answer-requires-2
advance-answer-requires-2 c = record {
  setup_value = in_range_law c.requires;
  sound_machine = follow_sound _ _ _ (in_range_law c.requires) _ _ _ c.loop-k.invariant.1;
}

pub returns : goal.returns
returns c =
    ends c.requires _ _ _ c.loop-k.invariant.1 (omega (arith, c.loop-k.auto.k-end)) c.loop-k-test.false _ c.advance-answer-2.ensures.answers
    _ c.reason_by-reason.ensures _ c.if_asked.ensures
