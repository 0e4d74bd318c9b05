use Rattle.gate_questions.proofs.Laws.{timely_words}
use Rattle.gate_questions.proofs.timely.Goals as goal

pub returns : goal.returns
returns c = search timely_words
