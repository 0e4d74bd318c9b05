use Rattle.reason.proofs.Laws.{view_is}
use Rattle.reason.proofs.given.view_until.Goals as goal

pub returns : goal.returns
returns c = search view_is
