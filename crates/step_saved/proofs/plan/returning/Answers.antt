use Rattle.step_saved.proofs.plan.returning.Goals as goal

pub returns : goal.returns
returns c = rw c.all_copies.ensures
