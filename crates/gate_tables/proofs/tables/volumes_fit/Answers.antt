use borrow.Author.Rules.{rules}
use native.Mathlib.Nat.{sub-zero}
use Rattle.laws.specs.Loop.{all_by, all_end}
use Rattle.gate_tables.proofs.Scans.{volume_fits_law}
use Rattle.gate_tables.proofs.tables.volumes_fit.Goals as goal

pub loop-volume-init : goal.loop-volume-init
loop-volume-init c = (search rules, rw sub-zero)

pub loop-volume-preserved : goal.loop-volume-preserved
loop-volume-preserved c = (search rules, search (all_by, volume_fits_law))

pub returns : goal.returns
returns c = search all_end
