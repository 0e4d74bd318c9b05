use Rattle.protocol.specs.declared.records.Request.{Request}
use Rattle.protocol.specs.Tables.{no_request}
use Rattle.protocol.specs.Sound.{request_sound, requests_sound}
use Rattle.client_lent.proofs.Laws.{counted_yes, counted_no}
use Rattle.client_lent.proofs.requests.sound.Goals as goal

pub returns-then-as_many : goal.returns-then-as_many
unfolding requests_sound
returns-then-as_many c =
    counted_yes (λ (y : Request). request_sound c.args.setup y) no_request _ _ _ c.as_many.ensures _ c.if-as_many.true c.all_sound.ensures

pub returns-else-as_many : goal.returns-else-as_many
unfolding requests_sound
returns-else-as_many c = counted_no (λ (y : Request). request_sound c.args.setup y) no_request _ _ _ c.as_many.ensures c.if-as_many.false
