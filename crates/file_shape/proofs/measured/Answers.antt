use Rattle.file_shape.proofs.Laws.{too_short, too_long, by_trailer}
use Rattle.file_shape.proofs.measured.Goals as goal

pub returns-then-n-lt-EMPTY : goal.returns-then-n-lt-EMPTY
returns-then-n-lt-EMPTY c = search too_short

pub returns-then-n-gt-FILE : goal.returns-then-n-gt-FILE
returns-then-n-gt-FILE c = search too_long

pub returns : goal.returns
returns c = search by_trailer
