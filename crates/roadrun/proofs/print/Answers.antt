use Rattle.std.proofs.Common.{arith}
use Rattle.roadrun.proofs.Laws.{print_listed, print_refused}
use Rattle.roadrun.proofs.print.Goals as goal

pub returns-in-Ok : goal.returns-in-Ok
returns-in-Ok c = print_listed _ _ _ _ (omega arith) c.list.ensures _ c.in-Ok.is

pub returns-in-Err : goal.returns-in-Err
returns-in-Err c = print_refused _ _ _ _ (omega arith) c.list.ensures _ _ _ c.in-Err.is c.write_refused.ensures
