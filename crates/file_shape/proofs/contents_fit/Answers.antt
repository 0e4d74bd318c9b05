use Rattle.file_shape.proofs.Laws.{contents_by}
use Rattle.file_shape.proofs.contents_fit.Goals as goal

pub returns : goal.returns
returns c = search contents_by
