use native.Mathlib.Nat.{sub-zero}
use Rattle.laws.specs.Loop.{fold_again, fold_end}
use Rattle.laws.specs.Store.{store_each}
use Rattle.state_words.proofs.pass.fill.Goals as goal

pub loop-i-init : goal.loop-i-init
loop-i-init g c = rw sub-zero

pub loop-i-preserved : goal.loop-i-preserved
loop-i-preserved g c = search fold_again

pub returns : goal.returns
unfolding store_each
returns g c = search fold_end
