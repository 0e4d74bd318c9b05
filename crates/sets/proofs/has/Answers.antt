use mathlib.Core.Path.{sym}
use Rattle.sets.specs.Words.{bit_is}
use Rattle.sets.proofs.has.Goals as goal

pub returns : goal.returns
returns c = sym (bit_is c.args.m c.args.k)
