use Rattle.step_decide.proofs.Deciding.{asked, accepts, not_refused, refuses}
use Rattle.step_decide.proofs.decide.Goals as goal

pub perform-requires : goal.perform-requires
perform-requires c =
    let all = asked _ _ _ _ _ c.in-Ok.ensures in record { setup_value = all.0; values_value = all.1; step_value = all.2 }

pub returns-in-Ok-clause-answer_after : goal.returns-in-Ok-clause-answer_after
returns-in-Ok-clause-answer_after c = accepts _ _ _ _ _ c.in-Ok.ensures _ _ _ _ c.perform.ensures.answer_after

pub returns-in-Ok-clause-words_unchanged : goal.returns-in-Ok-clause-words_unchanged
returns-in-Ok-clause-words_unchanged c = not_refused _ _ _ _ _ c.in-Ok.ensures _ _ _ _ c.perform.ensures.answer_after

pub returns-in-Err-clause-answer_after : goal.returns-in-Err-clause-answer_after
returns-in-Err-clause-answer_after c = refuses _ _ _ _ _ _ _ c.in-Err.ensures c.from.ensures _ _ c.keeping.ensures
