use Rattle.network_rows.proofs.Reading.{load_is}
use Rattle.network_rows.proofs.row.load.Goals as goal

pub returns : goal.returns
returns c = search load_is
