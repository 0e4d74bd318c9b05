use Prim.Native.Nat.{ℕ}
use Rattle.laws.specs.Loop.{Scanning}
use Rattle.protocol.specs.Sound.{can_grow}
use Rattle.protocol.specs.Tables.{epoch_at}
use Rattle.state_words.specs.View.{numbers_of}
use Rattle.gate_questions.proofs.growth.epochs_grow.Given as goal

abbrev pub invariant-loop-volume : goal.invariant-loop-volume
invariant-loop-volume l = Scanning (λ (k : ℕ). can_grow (epoch_at (numbers_of l.words) k)) l.n l.ok l.volume
