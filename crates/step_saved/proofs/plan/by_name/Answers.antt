use Rattle.step_saved.proofs.Planning.{plan_by_name}
use Rattle.step_saved.proofs.plan.by_name.Goals as goal

pub returns-in-Ok-Save : goal.returns-in-Ok-Save
returns-in-Ok-Save c = plan_by_name _ _ _ _ _ (rw c.in-Ok-Save.field-0-is at c.in-Ok-Save.ensures) c.saving.ensures

pub returns-in-Ok-Return : goal.returns-in-Ok-Return
returns-in-Ok-Return c = plan_by_name _ _ _ _ _ (rw c.in-Ok-Return.field-0-is at c.in-Ok-Return.ensures) c.returning.ensures

pub returns-in-Err : goal.returns-in-Err
returns-in-Err c = plan_by_name _ _ _ _ _ c.in-Err.ensures (rw c.from.ensures at c.staying.ensures)
