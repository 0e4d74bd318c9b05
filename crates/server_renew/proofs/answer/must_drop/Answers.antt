use Rattle.server_renew.proofs.Reading.{drops}
use Rattle.server_renew.proofs.answer.must_drop.Goals as goal

pub returns : goal.returns
returns c = drops _ _ _ _ c.requires.client_bound c.requires.volume_bound
