use Rattle.gate_message.proofs.messages.message_sound.Goals as goal

pub returns : goal.returns
returns c = rw (c.from.ensures, c.kind_sound.ensures)
