use Rattle.sets.specs.Words.{removes}
use Rattle.sets.proofs.without.Goals as goal

pub returns : goal.returns
returns c = removes _ _ c.ranges.m.fits c.requires
