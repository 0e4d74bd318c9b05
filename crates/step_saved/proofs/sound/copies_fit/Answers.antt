use Rattle.std.proofs.Common.{ap, ◌∙◌, rules}
use native.Mathlib.Nat.{sub-zero}
use Rattle.laws.specs.Loop.{all_by, all_end}
use Rattle.protocol.specs.declared.records.Copy.{Copy}
use Rattle.protocol.specs.Sound.{time_fits}
use Rattle.step_saved.proofs.sound.copies_fit.Goals as goal

pub loop-k-init : goal.loop-k-init
loop-k-init c = (search rules, rw sub-zero)

pub loop-k-preserved : goal.loop-k-preserved
loop-k-preserved c =
    (search rules, all_by _ _ _ _ _ _ (search rules) (c.copy_sound-ok.ensures ∙ ap (λ (x : Copy). time_fits x.expiry) c.copy_at.ensures) c.loop-k.invariant.1)

pub returns : goal.returns
returns c = search all_end
