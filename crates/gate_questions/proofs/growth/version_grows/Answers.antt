use Rattle.gate_questions.proofs.GrowthLaws.{version_word, version_past}
use Rattle.gate_questions.proofs.growth.version_grows.Goals as goal

pub returns-then-object-lt-SLOTS : goal.returns-then-object-lt-SLOTS
returns-then-object-lt-SLOTS c = search version_word

pub returns : goal.returns
returns c = search version_past
