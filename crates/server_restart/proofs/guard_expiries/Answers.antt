use native.Mathlib.Omega.{arith}
use Rattle.server_restart.proofs.Restarting.{guards_copied}
use Rattle.server_restart.proofs.guard_expiries.Goals as goal

pub returns : goal.returns
returns c = let e = c.copy_within.ensures in guards_copied _ _ (omega arith) e.len e.by_index.0 e.by_index.1 e.by_index.2
