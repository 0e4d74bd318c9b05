use Rattle.client_apply.proofs.Changing.{sweep_kept}
use Rattle.client_apply.proofs.sweep.Goals as goal

pub returns-in-Keep : goal.returns-in-Keep
returns-in-Keep c = search sweep_kept
