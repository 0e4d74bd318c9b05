use mathlib.Core.Path.{refl}
use Rattle.protocol.proofs.Ranges.{ranges}
use native.Mathlib.Omega.{arith}
use Rattle.server_restart.proofs.Restarting.{epochs_numbers, restarts}
use Rattle.server_restart.proofs.restart.Goals as goal

pub grow_epochs-requires : goal.grow_epochs-requires
grow_epochs-requires c = record { n_bound = (ranges _ c.requires.setup_value).volumes.1; epochs_grow = epochs_numbers _ _ c.args.values.now c.requires.epochs_grow }

pub returns : goal.returns
returns c = let all = restarts c.args.setup
    _ _ _ _ _ _ _ _ _ (omega arith) (omega arith)
    refl (ranges _ c.requires.setup_value).volumes.1 c.grow_epochs.ensures
    c.guard_expiries.ensures c.clear_sessions.ensures
    c.clear_objects.ensures c.clear_holders.ensures c.fill.ensures in record { values_after = all.0; values_unchanged = all.1 }
