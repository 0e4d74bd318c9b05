use Rattle.std.proofs.Common.{arith}
use Rattle.network_rows.proofs.Moved.{row_stored}
use Rattle.network_rows.proofs.row.store.Goals as goal

pub returns : goal.returns
returns c = row_stored _ _ _ _ _ _ _ (omega arith) (omega arith) c.copy_from_slice.ensures.after (omega arith)
