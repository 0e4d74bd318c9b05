use Rattle.server_dropped.proofs.Dropping.{drop_takes}
use Rattle.server_dropped.proofs.drop_taken.Goals as goal

pub returns : goal.returns
returns c = drop_takes _ _ _ _ _ c.requires.client_bound c.requires.volume_bound
