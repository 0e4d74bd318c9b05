use Rattle.laws.specs.Loop.{Scanning}
use Rattle.protocol.specs.Sound.{sessions_sound}
use Rattle.state_words.specs.View.{numbers_of}
use Rattle.gate_tables.proofs.tables.all_sessions_fit.Given as goal

abbrev pub invariant-loop-client : goal.invariant-loop-client
invariant-loop-client l = Scanning (sessions_sound l.setup (numbers_of l.words)) l.setup.clients l.ok l.client
