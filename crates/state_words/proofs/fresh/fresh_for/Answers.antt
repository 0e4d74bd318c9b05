use Rattle.state_words.proofs.Laws.{fresh_yes, fresh_no}
use Rattle.state_words.proofs.fresh.fresh_for.Goals as goal

pub returns-then-in_range : goal.returns-then-in_range
returns-then-in_range c =
    let all = fresh_yes _ _ c.in_range.ensures _ _ _ _ c.if-in_range.true (c.fresh.ensures.values_after, c.fresh.ensures.values_after_2) in
    record {
      refusal = all.0;
      accepts = all.1.0;
      refuses = all.1.1;
    }

pub returns : goal.returns
returns c = let all = fresh_no _ _ c.in_range.ensures _ _ c.if-in_range.false in record { refusal = all.0; accepts = all.1.0; refuses = all.1.1 }
