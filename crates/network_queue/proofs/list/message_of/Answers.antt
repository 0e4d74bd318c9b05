use Rattle.network_queue.proofs.Laws.{row_message, row_stray}
use Rattle.network_queue.proofs.list.message_of.Goals as goal

pub returns-then-narrow : goal.returns-then-narrow
returns-then-narrow c = row_message _ _ _ _ _ c.narrow.ensures _ _ _ c.if-narrow.true c.load.ensures c.try_from.ensures c.stray.ensures c.unwrap_or.ensures

pub returns : goal.returns
returns c = search row_stray
