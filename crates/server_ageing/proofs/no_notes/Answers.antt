use native.Mathlib.Nat.{sub-zero}
use Rattle.laws.specs.Loop.{all_by, all_end}
use Rattle.server_ageing.proofs.Ageing.{none_here}
use borrow.Author.Rules.{rules}
use Rattle.server_ageing.proofs.no_notes.Goals as goal

pub loop-i-init : goal.loop-i-init
loop-i-init c = (search rules, rw sub-zero)

pub loop-i-preserved : goal.loop-i-preserved
loop-i-preserved c = (search rules, search (all_by, none_here))

pub returns : goal.returns
returns c = search all_end
