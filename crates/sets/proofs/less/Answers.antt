use Rattle.sets.specs.Words.{lessens}
use Rattle.sets.proofs.less.Goals as goal

pub returns : goal.returns
returns c = lessens _ _ c.ranges.m.fits c.ranges.n.fits
