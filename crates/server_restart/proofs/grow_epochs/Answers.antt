use native.Mathlib.Omega.{arith}
use Prim.Native.Nat.{◌+◌}
use Rattle.laws.specs.Loop.{fold_end}
use Rattle.laws.specs.Store.{store_each}
use Rattle.state_words.specs.Fields.{at, VOLUME_EPOCH}
use Rattle.server_restart.proofs.Restarting.{epoch_grows, grow_keeps, grow_again}
use borrow.Author.Rules.{rules}
use Rattle.server_restart.proofs.grow_epochs.Goals as goal

pub overflow_add-words-in-loop-volume : goal.overflow_add-words-in-loop-volume
overflow_add-words-in-loop-volume c =
    let l = c.loop-volume in
    omega (
      arith,
      l.invariant.0.same (at VOLUME_EPOCH + l.volume) (omega arith),
      epoch_grows c.args.n c.args.words.now l.volume c.requires.epochs_grow (search rules) (search rules),
    )

pub loop-volume-preserved : goal.loop-volume-preserved
loop-volume-preserved c = let l = c.loop-volume in (grow_keeps _ _ _ _ l.invariant.0, grow_again _ _ _ _ (search rules) (search rules) _ l.invariant.0 l.invariant.1)

pub returns : goal.returns
unfolding store_each
returns c = search fold_end
