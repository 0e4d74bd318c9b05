use Rattle.std.proofs.Common.{refl, ◌∙◌, ap, ℕ, eqb}
use Rattle.step_verdict.proofs.Refusing.{not_zero}
use Rattle.run_step.proofs.Laws.{can_perform, can_change, performs, refused}
use Rattle.run_step.proofs.advance.Goals as goal

pub perform-verdict-requires : goal.perform-verdict-requires
perform-verdict-requires c =
    let all = can_perform _ _ _ c.requires.setup_value c.requires.sound_world _ _ _ _ _ c.target-at.ensures c.copy_of-c.ensures
    c.request_of-r.ensures c.in-Ok.ensures refl in
    record { setup_value = all.0; values_value = all.1.0; step_value = all.1.1 }

pub change-requires : goal.change-requires
change-requires c =
    let all = can_change _ _ _ c.requires.setup_value c.requires.sound_world _ _ _ _ _ c.target-at.ensures c.copy_of-c.ensures
    c.request_of-r.ensures c.in-Ok.ensures refl _ _ _ _
    (c.perform-verdict.ensures.answer_after, c.perform-verdict.ensures.values_unchanged) in
    record { setup_value = all.0; first_value = all.1.0; can_turn = all.1.1 }

pub returns-in-Ok : goal.returns-in-Ok
returns-in-Ok c =
    let all = performs _ _ _ c.requires.setup_value c.requires.sound_world _ _ _ _ _ c.target-at.ensures c.copy_of-c.ensures
    c.request_of-r.ensures c.in-Ok.ensures refl _ _ _ _
    (c.perform-verdict.ensures.answer_after, c.perform-verdict.ensures.values_unchanged) _ c.change.ensures in
    record { value = all.0; values_after = all.1 }

pub returns-in-Err : goal.returns-in-Err
returns-in-Err c =
    let all = refused _ _ _ c.requires.setup_value c.requires.sound_world _ _ _ _ _ c.target-at.ensures c.copy_of-c.ensures
    c.request_of-r.ensures (c.from.ensures ∙ c.in-Err.ensures) (ap (λ (k : ℕ). eqb k 0) c.from.ensures ∙ not_zero _) in
    record { value = all.0; values_after = all.1 }
