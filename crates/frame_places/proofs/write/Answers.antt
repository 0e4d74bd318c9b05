use Rattle.frame_places.proofs.Laws.{all_stored}
use Rattle.frame_places.proofs.write.Goals as goal

pub returns : goal.returns
returns c = search all_stored
