use Rattle.std.proofs.Common.{sym, subst}
use Rattle.step_saved.specs.Applied.{ActFits, act_fits}
use Rattle.run_saved.proofs.Laws.{does}
use Rattle.run_saved.proofs.by_name.Goals as goal

pub apply-requires : goal.apply-requires
apply-requires c = subst ActFits (sym c.in-Ok.ensures) (act_fits _ _)

pub returns-in-Ok : goal.returns-in-Ok
returns-in-Ok c = does _ _ _ _ _ c.requires _ c.in-Ok.ensures _ _ _ _ c.apply.ensures

pub returns-in-Err : goal.returns-in-Err
returns-in-Err c s i o = rw c.from.ensures (does _ _ _ _ _ c.requires _ c.in-Err.ensures s i o)
