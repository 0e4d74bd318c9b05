use native.Mathlib.Omega.{arith}
use mathlib.Core.Path.{◌∙◌}
use Rattle.laws.specs.Loop.{fold_end}
use Rattle.protocol.specs.Writes.{settled}
use Rattle.protocol.proofs.Ranges.{ranges}
use Rattle.server_complete.proofs.Settling.{settle_version, settle_done, settle_passed, settle_grows}
use borrow.Author.Rules.{rules}
use Rattle.server_complete.proofs.settle.settle.Goals as goal
use Rattle.server_complete.proofs.settle.settle.Goals.{then-triggered, else-triggered}

pub complete-requires : goal.complete-requires
complete-requires c = record {
  setup_value = c.requires.setup_value;
  object_lt_objects = search rules;
  object_bound = settle_version _ _ _ _ _ _ c.triggered.ensures c.if-triggered.true c.loop-object.invariant.growing (search rules);
}

pub overflow_add-count : goal.overflow_add-count
overflow_add-count c = omega (arith, (ranges _ c.requires.setup_value).objects.1, c.loop-object.invariant.counted)

pub loop-object-preserved : goal.loop-object-preserved
loop-object-preserved c =
    let i = c.loop-object.invariant in
    elim c.if-triggered.branch [
      | then-triggered w ↦ rw (w.words-is, w.values-is, w.count-is) (record {
        counted = omega (arith, i.counted);
        growing = settle_grows _ _ _ _ i.growing w.complete.ensures.values_after;
        records = w.complete.ensures.values_unchanged ∙ i.records;
        done = settle_done _ _ _ _ _ _ c.triggered.ensures _ _ (search rules) i.done _ w.if-triggered.true w.complete.ensures.values_after;
      })
      | else-triggered w ↦ rw (w.words-is, w.values-is, w.count-is) (record {
        counted = omega (arith, i.counted);
        growing = i.growing;
        records = i.records;
        done = settle_passed _ _ _ _ _ _ c.triggered.ensures _ _ (search rules) i.done w.if-triggered.false;
      })
    ]

pub returns : goal.returns
unfolding settled
returns c =
    let i = c.loop-object.invariant in
    record { values_after = fold_end _ _ _ _ _ (search rules) i.done; values_unchanged = i.records }
