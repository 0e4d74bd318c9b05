use Rattle.step_saved.proofs.plan.saving.Goals as goal

pub returns : goal.returns
returns c = rw c.all_copies.ensures
