use Rattle.server_replies.proofs.Replies.{waits_in_law}
use Rattle.server_replies.proofs.lowest.waited_in.Goals as goal

pub returns : goal.returns
returns c = waits_in_law _ _ _ _ _ _ _ c.volume_of-own.ensures c.has-waited.ensures
