use Rattle.server_cleared.proofs.Clearing.{clear_takes}
use Rattle.server_cleared.proofs.clear_taken.Goals as goal

pub returns : goal.returns
returns c = clear_takes _ _ _ _ _ c.requires.client_bound c.requires.volume_bound
