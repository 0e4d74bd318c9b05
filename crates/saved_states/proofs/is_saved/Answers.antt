use Rattle.state_words.proofs.SavedLaws.{mark_read}
use Rattle.saved_states.proofs.is_saved.Goals as goal

pub returns : goal.returns
returns c = mark_read _
