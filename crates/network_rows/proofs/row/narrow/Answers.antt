use Rattle.std.proofs.Common.{rules}
use Rattle.std.proofs.iter.runs.Sources.{ranges}
use Rattle.state_words.specs.Rows.{narrow_at}
use Rattle.network_rows.proofs.row.narrow.Goals as goal

pub returns : goal.returns
unfolding narrow_at
returns c = search (rules, ranges)
