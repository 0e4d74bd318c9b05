use Rattle.step_perform.proofs.Performing.{answering}
use Rattle.step_perform.proofs.read.Goals as goal

pub returns : goal.returns
returns c = answering _ _ _ c.keeping.ensures c.read.ensures
