use borrow.Author.Rules.{rules}
use native.Mathlib.Nat.{sub-zero}
use Rattle.laws.specs.Loop.{all_by, all_end}
use Rattle.gate_tables.proofs.Scans.{object_fits}
use Rattle.gate_tables.proofs.tables.objects_fit.Goals as goal

pub loop-object-init : goal.loop-object-init
loop-object-init c = (search rules, rw sub-zero)

pub loop-object-preserved : goal.loop-object-preserved
loop-object-preserved c = (search rules, search (all_by, object_fits))

pub returns : goal.returns
returns c = search all_end
