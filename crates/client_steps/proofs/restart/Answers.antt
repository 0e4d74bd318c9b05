use native.Mathlib.Omega.{arith}
use Rattle.protocol.proofs.Ranges.{ranges}
use Rattle.client_steps.proofs.Stepping.{restarts}
use Rattle.client_steps.proofs.restart.Goals as goal

pub fill-requires : goal.fill-requires
fill-requires c = omega (arith, c.requires.client_lt_clients, (ranges _ c.requires.setup_value).clients.1, (ranges _ c.requires.setup_value).volumes.1)

pub fill-requires-2 : goal.fill-requires-2
fill-requires-2 c =
    omega (arith, c.requires.client_lt_clients, (ranges _ c.requires.setup_value).clients.1, (ranges _ c.requires.setup_value).volumes.1)

pub returns : goal.returns
returns c = let all = restarts _ _ _ _ _ _ c.requires.setup_value c.requires.client_lt_clients c.fill.ensures c.fill-2.ensures in record { values_after = all.0; values_unchanged = all.1 }
