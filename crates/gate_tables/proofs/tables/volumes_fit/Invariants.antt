use Rattle.laws.specs.Loop.{Scanning}
use Rattle.protocol.specs.Sound.{volume_sound}
use Rattle.state_words.specs.View.{numbers_of}
use Rattle.gate_tables.proofs.tables.volumes_fit.Given as goal

abbrev pub invariant-loop-volume : goal.invariant-loop-volume
invariant-loop-volume l = Scanning (volume_sound (numbers_of l.words)) l.n l.ok l.volume
