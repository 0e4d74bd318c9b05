use Rattle.network_send.proofs.Laws.{lost, pushes}
use Rattle.network_send.proofs.push.Goals as goal

pub returns-then-n : goal.returns-then-n
returns-then-n c = let all = lost _ _ _ c.if-n.true in record { values_after = all.0; values_unchanged = all.1 }

pub returns : goal.returns
returns c = let all = pushes _ _ _ c.told-words c.told-values
    _ _ _ c.if-n.false c.from-f.ensures c.words_of.ensures c.store.ensures in record { values_after = all.0; values_unchanged = all.1 }
