use mathlib.Core.Path.{refl}
use Rattle.protocol.specs.Leases.{end_over}
use Rattle.lease_tests.proofs.time.end_over.Goals as goal

pub returns : goal.returns
unfolding end_over
returns c = refl
