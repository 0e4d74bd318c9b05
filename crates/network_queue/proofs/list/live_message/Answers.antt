use Rattle.network_queue.proofs.Laws.{live_place}
use Rattle.network_queue.proofs.list.live_message.Goals as goal

pub returns : goal.returns
returns c = search live_place
