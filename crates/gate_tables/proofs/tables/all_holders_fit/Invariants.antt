use Rattle.laws.specs.Loop.{Scanning}
use Rattle.protocol.specs.Sound.{holders_sound}
use Rattle.state_words.specs.View.{numbers_of}
use Rattle.gate_tables.proofs.tables.all_holders_fit.Given as goal

abbrev pub invariant-loop-client : goal.invariant-loop-client
invariant-loop-client l = Scanning (holders_sound l.setup (numbers_of l.words)) l.setup.clients l.ok l.client
