use mathlib.Core.Path.{refl}
use Rattle.file_shape.proofs.trailer_fits.Goals as goal

pub returns : goal.returns
returns c = refl
