use borrow.Author.Rules.{rules}
use mathlib.Core.Path.{refl}
use Rattle.laws.specs.Loop.{all_by, all_end}
use Rattle.setup.proofs.volumes_fit.Goals as goal

pub loop-o-init : goal.loop-o-init
loop-o-init c = (search rules, refl)

pub loop-o-preserved : goal.loop-o-preserved
loop-o-preserved c = (search rules, search (all_by, rules))

pub returns : goal.returns
returns c = search all_end
