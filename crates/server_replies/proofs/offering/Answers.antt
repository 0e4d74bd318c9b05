use Rattle.server_replies.proofs.Replies.{sends_offer}
use Rattle.server_replies.proofs.offering.Goals as goal

pub returns : goal.returns
returns c = sends_offer _ _ _ _ c.requires.volume_bound
