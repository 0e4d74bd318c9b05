use Rattle.client_apply.proofs.Changing.{changes}
use Rattle.client_apply.proofs.change.Goals as goal

pub returns : goal.returns
returns c = changes c.args.setup c.args.at c.args.g _ _ _ _ c.change_copy.ensures c.sweep.ensures _ c.turn.ensures
