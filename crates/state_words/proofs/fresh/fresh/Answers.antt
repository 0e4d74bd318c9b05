use Rattle.state_words.proofs.Laws.{fresh_filled}
use Rattle.state_words.proofs.fresh.fresh.Goals as goal

pub returns : goal.returns
returns c = let all = fresh_filled _ _ _ c.fill.ensures c.fill-2.ensures c.fill-3.ensures in record { values_after = all.0; values_after_2 = all.1 }
