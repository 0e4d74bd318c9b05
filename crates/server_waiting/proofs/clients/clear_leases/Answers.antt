use Rattle.laws.specs.Loop.{fold_again, fold_end}
use Rattle.laws.specs.Store.{store_each}
use Rattle.server_waiting.proofs.clients.clear_leases.Goals as goal

pub loop-client-preserved : goal.loop-client-preserved
loop-client-preserved c = search fold_again

pub returns : goal.returns
unfolding store_each
returns c = search fold_end
