use Rattle.sets.specs.Words.{lessens, within_is}
use Rattle.sets.proofs.within.Goals as goal

pub returns : goal.returns
returns c = rw (lessens _ _ c.ranges.m.fits c.ranges.n.fits) (within_is _ _)
