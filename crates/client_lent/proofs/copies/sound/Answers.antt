use Rattle.protocol.specs.declared.records.Copy.{Copy}
use Rattle.protocol.specs.Tables.{no_copy}
use Rattle.protocol.specs.Sound.{time_fits, copies_sound}
use Rattle.client_lent.proofs.Laws.{counted_yes, counted_no}
use Rattle.client_lent.proofs.copies.sound.Goals as goal

pub returns-then-as_many : goal.returns-then-as_many
unfolding copies_sound
returns-then-as_many c =
    counted_yes (λ (y : Copy). time_fits y.expiry) no_copy _ _ _ c.as_many.ensures _ c.if-as_many.true c.all_sound.ensures

pub returns-else-as_many : goal.returns-else-as_many
unfolding copies_sound
returns-else-as_many c = counted_no (λ (y : Copy). time_fits y.expiry) no_copy _ _ _ c.as_many.ensures c.if-as_many.false
