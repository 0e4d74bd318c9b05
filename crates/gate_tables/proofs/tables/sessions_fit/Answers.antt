use borrow.Author.Rules.{rules}
use native.Mathlib.Nat.{sub-zero}
use Rattle.laws.specs.Loop.{all_by, all_end}
use Rattle.protocol.proofs.Ranges.{ranges}
use Rattle.gate_tables.proofs.Scans.{session_fits}
use Rattle.gate_tables.proofs.tables.sessions_fit.Goals as goal

pub loop-volume-init : goal.loop-volume-init
loop-volume-init c = ((ranges _ c.requires.setup_value).volumes.1, (search rules, rw sub-zero))

pub loop-volume-preserved : goal.loop-volume-preserved
loop-volume-preserved c = (search rules, (search rules, search (all_by, session_fits)))

pub returns : goal.returns
returns c = search all_end
