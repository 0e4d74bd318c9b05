use Rattle.laws.specs.Loop.{Scanning}
use Rattle.protocol.specs.Sound.{object_sound}
use Rattle.state_words.specs.View.{numbers_of}
use Rattle.gate_tables.proofs.tables.objects_fit.Given as goal

abbrev pub invariant-loop-object : goal.invariant-loop-object
invariant-loop-object l = Scanning (object_sound (numbers_of l.words)) l.n l.ok l.object
