use Rattle.file_shape.proofs.Laws.{fits_by}
use Rattle.file_shape.proofs.step_fits.Goals as goal

pub returns : goal.returns
returns c = search fits_by
