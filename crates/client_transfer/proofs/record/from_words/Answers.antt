use native.Mathlib.Nat.{sub-zero}
use Rattle.std.proofs.Common.{◌∙◌}
use Rattle.laws.specs.Loop.{fold_again, fold_end}
use Rattle.laws.specs.Overlay.{overlay}
use Rattle.client_transfer.proofs.record.from_words.Goals as goal

pub loop-k-init : goal.loop-k-init
unfolding overlay
loop-k-init g c = rw sub-zero

pub loop-k-preserved : goal.loop-k-preserved
loop-k-preserved g c = fold_again _ _ _ _ _ _ c.loop-k-test.true (c.store.ensures ∙ rw c.kept.ensures) c.loop-k.invariant

pub returns : goal.returns
returns g c = fold_end _ _ _ _ _ c.loop-k-test.false c.loop-k.invariant
