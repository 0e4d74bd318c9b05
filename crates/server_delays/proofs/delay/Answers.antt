use native.Mathlib.Omega.{arith}
use native.Mathlib.Nat.{sub-zero}
use Rattle.laws.specs.Loop.{fold_again, fold_end}
use Rattle.protocol.proofs.Ranges.{ranges}
use Rattle.protocol.specs.Writes.{delayed}
use Rattle.server_marks.specs.SessionWords.{only_start, only_again}
use Rattle.server_delays.proofs.Delaying.{delays_still}
use borrow.Author.Rules.{rules}
use Rattle.server_delays.proofs.delay.Goals as goal

pub loop-client-init : goal.loop-client-init
loop-client-init c = (only_start _, rw sub-zero)

pub delay_one-requires : goal.delay_one-requires
delay_one-requires c = record { setup_value = c.requires.setup_value; object_lt_objects = c.requires.object_lt_objects; client_bound = omega (arith, (ranges _ c.requires.setup_value).clients.1) }

pub loop-client-preserved : goal.loop-client-preserved
loop-client-preserved c =
    let i = c.loop-client.invariant in (
      only_again _ _ _ i.0 c.delay_one.ensures.only_sessions,
      fold_again _ _ _ _ _ _ (search rules) (delays_still _ _ _ _ _ _ i.0 c.delay_one.ensures.words_after) i.1,
    )

pub returns : goal.returns
unfolding delayed
returns c = record { words_after = fold_end _ _ _ _ _ (search rules) c.loop-client.invariant.1; only_sessions = c.loop-client.invariant.0 }
