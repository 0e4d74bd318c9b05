use native.Mathlib.Omega.{arith}
use mathlib.Core.List.{[]}
use Rattle.state_words.proofs.ReadsLaws.{version_word}
use Rattle.server_ack.proofs.Acking.{ack_stands, ack_rests, standing_version}
use Rattle.server_ack.proofs.ack_taken.Goals as goal

pub overflow_add-result-then-words-object-ne0 : goal.overflow_add-result-then-words-object-ne0
overflow_add-result-then-words-object-ne0 c =
    let p = c.volume_of-volume.ensures in
    omega (arith, version_word c.args.words.now [] c.args.object p.object, standing_version _ _ _ c.requires.growing c.requires.object_lt_objects p.object c.if-words-object-ne0.true)

pub returns-then-words-object-ne0 : goal.returns-then-words-object-ne0
returns-then-words-object-ne0 c = ack_stands _ _ _ _ _ _ c.volume_of-volume.ensures c.if-words-object-ne0.true

pub returns-else-words-object-ne0 : goal.returns-else-words-object-ne0
returns-else-words-object-ne0 c = ack_rests _ _ _ _ _ c.volume_of-volume.ensures.object c.if-words-object-ne0.false
