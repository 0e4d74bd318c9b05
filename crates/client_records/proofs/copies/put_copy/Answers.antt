use native.Mathlib.Omega.{arith}
use Rattle.client_records.proofs.Reading.{copy_stored}
use Rattle.client_records.proofs.copies.put_copy.Goals as goal

pub returns : goal.returns
returns c = let all = copy_stored _ _ _ _ c.requires (omega arith) (omega arith) in record { values_unchanged = all.0; values_after = all.1 }
