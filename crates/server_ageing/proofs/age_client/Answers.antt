use native.Mathlib.Omega.{arith}
use native.Mathlib.Nat.{sub-zero}
use Rattle.laws.specs.Loop.{fold_again, fold_end}
use Rattle.protocol.proofs.Ranges.{ranges}
use Rattle.protocol.specs.Writes.{aged_in}
use Rattle.server_marks.specs.SessionWords.{only_start, only_again}
use borrow.Author.Rules.{rules}
use Rattle.server_ageing.proofs.age_client.Goals as goal

pub loop-volume-init : goal.loop-volume-init
loop-volume-init c = (only_start _, rw sub-zero)

pub age_at-requires : goal.age_at-requires
age_at-requires c = record { client_bound = search rules; volume_bound = omega (arith, (ranges _ c.requires.setup_value).volumes.1) }

pub loop-volume-preserved : goal.loop-volume-preserved
loop-volume-preserved c = (
  only_again _ _ _ c.loop-volume.invariant.0 c.age_at.ensures.only_sessions,
  fold_again _ _ _ _ _ _ (search rules) c.age_at.ensures.words_after c.loop-volume.invariant.1,
)

pub returns : goal.returns
unfolding aged_in
returns c = record { words_after = fold_end _ _ _ _ _ (search rules) c.loop-volume.invariant.1; only_sessions = c.loop-volume.invariant.0 }
