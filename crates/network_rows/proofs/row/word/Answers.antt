use Rattle.network_rows.proofs.Reading.{word_at}
use Rattle.network_rows.proofs.row.word.Goals as goal

pub returns : goal.returns
returns c = search word_at
