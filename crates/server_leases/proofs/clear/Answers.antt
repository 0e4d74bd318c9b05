use Rattle.laws.specs.Loop.{fold_again, fold_end}
use Rattle.laws.specs.Store.{store_each}
use Rattle.server_leases.proofs.clear.Goals as goal
use Rattle.server_leases.proofs.clear.Goals.{then-given_up, else-given_up}

pub loop-object-preserved : goal.loop-object-preserved
loop-object-preserved g c = λ p h.
    let same = h _ _ c.loop-object-test.true c.given_up.ensures in
    elim c.if-given_up.branch [
      | then-given_up w ↦
          fold_again _ _ _ _ _ _ c.loop-object-test.true (rw (w.words-is, ← same, w.if-given_up.true)) (c.loop-object.invariant p h)
      | else-given_up w ↦
          fold_again _ _ _ _ _ _ c.loop-object-test.true (rw (w.words-is, ← same, w.if-given_up.false)) (c.loop-object.invariant p h)
    ]

pub returns : goal.returns
unfolding store_each
returns g c = λ p h. fold_end _ _ _ _ _ c.loop-object-test.false (c.loop-object.invariant p h)
