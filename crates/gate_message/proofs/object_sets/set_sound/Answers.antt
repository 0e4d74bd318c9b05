use Rattle.gate_message.proofs.Members.{none_sound, some_sound}
use Rattle.gate_message.proofs.object_sets.set_sound.Goals as goal

pub returns-then-set-eq0 : goal.returns-then-set-eq0
returns-then-set-eq0 c = search none_sound

pub returns : goal.returns
returns c = search some_sound
