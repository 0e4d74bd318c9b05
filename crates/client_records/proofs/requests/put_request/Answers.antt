use native.Mathlib.Omega.{arith}
use borrow.Author.Rules.{rules}
use Rattle.client_records.proofs.requests.put_request.Goals as goal

pub returns : goal.returns
returns c = record { is = search rules; byte = search rules; long = omega arith }
