use Rattle.step_verdict.proofs.keeping.Goals as goal

pub returns : goal.returns
returns c = rw c.unchanged.ensures
