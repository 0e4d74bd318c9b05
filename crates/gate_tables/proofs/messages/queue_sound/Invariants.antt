use Prim.Native.Nat.{ℕ}
use lib.ListN.{get_or}
use Rattle.laws.specs.Loop.{Scanning}
use Rattle.protocol.specs.Messages.{message_at}
use Rattle.protocol.specs.Sound.{message_sound}
use Rattle.state_words.specs.View.{tables_of}
use Rattle.gate_tables.proofs.messages.queue_sound.Given as goal

abbrev pub invariant-loop-i : goal.invariant-loop-i
invariant-loop-i l = Scanning (λ (k : ℕ). message_sound l.setup (message_at (tables_of l.words l.values).queue k)) (get_or l.words 1 0) l.ok l.i
