use mathlib.Core.Path.{refl}
use Rattle.protocol.specs.Leases.{server_alive}
use Rattle.lease_tests.proofs.time.server_alive.Goals as goal

pub returns : goal.returns
unfolding server_alive
returns c = refl
