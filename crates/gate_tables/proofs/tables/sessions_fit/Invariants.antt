use Prim.Native.Nat.{◌≤◌}
use Rattle.laws.specs.Loop.{Scanning}
use Rattle.protocol.specs.Sound.{session_sound}
use Rattle.state_words.specs.View.{numbers_of}
use Rattle.gate_tables.proofs.tables.sessions_fit.Given as goal

abbrev pub invariant-loop-volume : goal.invariant-loop-volume
invariant-loop-volume l = (l.setup.volumes ≤ 8) × Scanning (session_sound l.setup (numbers_of l.words) l.client) l.setup.volumes l.ok l.volume
