use Rattle.std.proofs.Common.{arith}
use Rattle.gate_questions.proofs.Laws.{vacant_words, vacant_past}
use Rattle.gate_questions.proofs.vacant.Goals as goal

pub returns-then-object-lt-SLOTS : goal.returns-then-object-lt-SLOTS
returns-then-object-lt-SLOTS c = rw (c.from-object.ensures, c.uses_value.ensures) (vacant_words _ _ (omega arith))

pub returns : goal.returns
returns c = vacant_past _ _ (omega arith)
