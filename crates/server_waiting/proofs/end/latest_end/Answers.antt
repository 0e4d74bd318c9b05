use Rattle.laws.specs.Greatest.{greatest}
use Rattle.laws.specs.Loop.{fold_end}
use Rattle.server_waiting.proofs.Passes.{end_again, end_none}
use borrow.Author.Rules.{rules}
use Rattle.server_waiting.proofs.end.latest_end.Goals as goal

pub returns-then-waiting-eq0 : goal.returns-then-waiting-eq0
returns-then-waiting-eq0 c = search end_none

pub loop-client-preserved : goal.loop-client-preserved
loop-client-preserved c =
    end_again _ _ _ _ (search rules) (search rules) (search rules) _ _ _ _ _ _ (search rules) c.has.ensures c.outlast-end.ensures c.loop-client.invariant

pub returns : goal.returns
unfolding greatest
returns c = search fold_end
