use Rattle.protocol.proofs.Ranges.{ranges}
use borrow.Author.Rules.{rules}
use native.Mathlib.Nat.{sub-zero}
use Rattle.laws.specs.Loop.{all_by, all_end}
use Rattle.gate_tables.proofs.tables.all_holders_fit.Goals as goal

pub loop-client-init : goal.loop-client-init
loop-client-init c = (search rules, rw sub-zero)

pub holders_fit-ok-requires : goal.holders_fit-ok-requires
holders_fit-ok-requires c = let k = ranges _ c.requires in search rules

pub loop-client-preserved : goal.loop-client-preserved
loop-client-preserved c = (search rules, search all_by)

pub returns : goal.returns
returns c = search all_end
