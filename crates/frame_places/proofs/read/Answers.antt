use Rattle.frame_places.proofs.Laws.{read_by}
use Rattle.frame_places.proofs.read.Goals as goal

pub returns : goal.returns
returns c = search read_by
