use Rattle.sets.specs.Words.{adds}
use Rattle.sets.proofs.with_if.Goals as goal

pub returns-then-yes : goal.returns-then-yes
returns-then-yes c = rw c.if-yes.true (adds _ _ c.ranges.m.fits c.requires)

pub returns : goal.returns
returns c = rw c.if-yes.false
