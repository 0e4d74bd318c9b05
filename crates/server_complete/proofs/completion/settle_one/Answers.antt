use Rattle.server_complete.proofs.Completing.{one_yes, one_no}
use Rattle.server_complete.proofs.completion.settle_one.Goals as goal

pub returns-then-ready : goal.returns-then-ready
returns-then-ready c =
    let all = one_yes _ _ _ _ _ c.ready.ensures _ _ c.if-ready.true (c.complete.ensures.values_after, c.complete.ensures.values_unchanged) in
    record {
      values_after = all.0;
      values_unchanged = all.1;
    }

pub returns : goal.returns
returns c = let all = one_no _ _ _ _ _ c.ready.ensures c.if-ready.false in record { values_after = all.0; values_unchanged = all.1 }
