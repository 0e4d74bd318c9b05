use native.Mathlib.Omega.{arith}
use Rattle.protocol.proofs.Ranges.{ranges}
use Rattle.lease_tests.proofs.Laws.{placed}
use Rattle.lease_tests.proofs.place.volume_of.Goals as goal

pub bounds-setup-object : goal.bounds-setup-object
bounds-setup-object c = omega (arith, ranges c.args.setup c.requires.setup_value)

pub returns : goal.returns
returns c = rw c.from.ensures (placed _ _ c.requires.setup_value c.requires.object_lt_objects)
