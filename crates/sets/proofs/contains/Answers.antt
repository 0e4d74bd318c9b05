use mathlib.Core.Path.{sym}
use Rattle.sets.specs.Words.{bit_past}
use Rattle.sets.proofs.contains.Goals as goal

pub returns-then-k-ge32 : goal.returns-then-k-ge32
returns-then-k-ge32 c = sym (bit_past _ 32 _ c.ranges.m.fits c.if-k-ge32.true)
