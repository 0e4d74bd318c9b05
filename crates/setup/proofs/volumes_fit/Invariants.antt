use Rattle.laws.specs.Loop.{Scanning}
use Rattle.protocol.specs.Setup.{volume_fits}
use Rattle.setup.proofs.volumes_fit.Given as goal

abbrev pub invariant-loop-o : goal.invariant-loop-o
invariant-loop-o l = Scanning (volume_fits l.setup) 28 l.ok l.o
