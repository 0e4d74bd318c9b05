use Rattle.step_saved.proofs.Sounding.{there_sound, never_sound}
use Rattle.step_saved.proofs.sound.saved_sound.Goals as goal

pub returns-then-words-ne0 : goal.returns-then-words-ne0
returns-then-words-ne0 c = search there_sound

pub returns : goal.returns
returns c = search never_sound
