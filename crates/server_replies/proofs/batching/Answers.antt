use Rattle.server_replies.proofs.Replies.{sends_batch}
use Rattle.server_replies.proofs.batching.Goals as goal

pub returns : goal.returns
returns c = sends_batch _ _ _ _ c.requires.client_bound c.requires.volume_bound
