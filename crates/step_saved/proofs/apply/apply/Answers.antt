use Rattle.std.proofs.Common.{◌≡◌, refl, Some, rules}
use Rattle.step_saved.specs.declared.plan.Act.TheVariants.{Save, Return}
use Rattle.step_saved.specs.Applied.{Fits, Applied}
use Rattle.step_saved.proofs.apply.apply.Goals as goal

pub save-requires : goal.save-requires
unfolding Fits
save-requires c = let e : c.args.act ≡ Some (Save c.in-Some-Save.name) = search rules in rw e at c.requires

pub restore-requires : goal.restore-requires
unfolding Fits
restore-requires c = let e : c.args.act ≡ Some (Return c.in-Some-Return.name) = search rules in rw e at c.requires

pub returns-in-None : goal.returns-in-None
unfolding Applied
returns-in-None c = rw c.in-None.is (record { words = refl; values = refl }, record { words = refl; values = refl })

pub returns-in-Some-Save : goal.returns-in-Some-Save
unfolding Applied
returns-in-Some-Save c =
    let e : c.args.act ≡ Some (Save c.in-Some-Save.name) = search rules in rw e (record { words = refl; values = refl }, c.save.ensures)

pub returns-in-Some-Return : goal.returns-in-Some-Return
unfolding Applied
returns-in-Some-Return c =
    let e : c.args.act ≡ Some (Return c.in-Some-Return.name) = search rules in rw e (c.restore.ensures, record { words = refl; values = refl })
