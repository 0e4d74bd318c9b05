use native.Mathlib.Omega.{arith}
use mathlib.Core.Path.{refl, ap, ◌∙◌}
use Rattle.laws.specs.Loop.{fold_from}
use Rattle.client_records.proofs.Reading.{sweep_again, swept_end}
use Rattle.client_records.proofs.copies.sweep.Goals as goal

pub loop-place-init : goal.loop-place-init
loop-place-init c = record { tables = refl; requests = refl; copies = ap (fold_from _ _ _) (omega arith) }

pub loop-place-preserved : goal.loop-place-preserved
loop-place-preserved c =
    let l = c.loop-place.invariant in
    let all = sweep_again _ _ _ _ _ _ _ _ _ _ _ c.loop-place-test.true c.copy_at-c.ensures c.sweep-swept.ensures c.put_copy.ensures.values_after (l.requests, l.copies) in
    record { tables = c.put_copy.ensures.values_unchanged ∙ l.tables; requests = all.0; copies = all.1 }

pub returns : goal.returns
returns c = let l = c.loop-place.invariant in record { values_unchanged = l.tables; values_after = swept_end _ _ _ _ _ _ _ c.loop-place-test.false l.requests l.copies }
