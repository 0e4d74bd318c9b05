use mathlib.Core.Bool.{true, false}
use mathlib.Core.Path.{refl, sym}
use native.Mathlib.Nat.{sub-zero}
use borrow.Author.Tests.{eq-eqb, ne_eqb}
use Rattle.laws.specs.Loop.{fold_end}
use Rattle.laws.specs.Store.{store_each}
use Rattle.server_dropped.proofs.Dropping.{in_volume, stop_keeps, stop_again}
use Rattle.server_dropped.proofs.stop_waiting.Goals as goal
use Rattle.server_dropped.proofs.stop_waiting.Goals.{then-volume_of-volume, else-volume_of-volume}

pub loop-object-init : goal.loop-object-init
loop-object-init c = (record { same = λ q k. refl }, rw sub-zero)

pub loop-object-preserved : goal.loop-object-preserved
loop-object-preserved c =
    let i = c.loop-object.invariant in
    let a = c.args in
    let p = c.volume_of.ensures in
    elim c.if-volume_of-volume.branch [
      | then-volume_of-volume w ↦ (
        stop_keeps _ _ _ true _ _ i.0 w.words-is,
        stop_again _ _ _ true _ _ i.0 w.words-is a.setup a.client a.volume _ p.object c.loop-object-test.true
            (in_volume _ _ _ _ true p (sym (eq-eqb _ _ w.if-volume_of-volume.true))) w.without.ensures i.1,
      )
      | else-volume_of-volume w ↦ (
        stop_keeps _ _ _ false _ 0 i.0 w.words-is,
        stop_again _ _ _ false _ _ i.0 w.words-is a.setup a.client a.volume _ p.object c.loop-object-test.true
            (in_volume _ _ _ _ false p (sym (ne_eqb _ _ w.if-volume_of-volume.false))) refl i.1,
      )
    ]

pub returns : goal.returns
unfolding store_each
returns c = search fold_end
