use Rattle.laws.specs.Loop.{Scanning}
use Rattle.protocol.specs.Sound.{holder_sound}
use Rattle.state_words.specs.View.{numbers_of}
use Rattle.gate_tables.proofs.tables.holders_fit.Given as goal

abbrev pub invariant-loop-object : goal.invariant-loop-object
invariant-loop-object l = Scanning (holder_sound (numbers_of l.words) l.client) l.n l.ok l.object
