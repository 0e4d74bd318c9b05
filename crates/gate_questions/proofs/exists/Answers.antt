use Rattle.gate_questions.proofs.Laws.{exists_words}
use Rattle.gate_questions.proofs.exists.Goals as goal

pub returns : goal.returns
returns c = rw (c.from.ensures, c.from-2.ensures, c.from-3.ensures) (search exists_words)
