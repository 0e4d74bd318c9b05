use Prim.Native.Nat.{ℕ}
use lib.ListN.{get_or}
use Rattle.laws.specs.Loop.{Scanning}
use Rattle.protocol.specs.Sound.{time_fits}
use Rattle.protocol.specs.Tables.{no_copy}
use Rattle.state_words.specs.View.{records_of}
use Rattle.step_saved.proofs.sound.copies_fit.Given as goal

abbrev pub invariant-loop-k : goal.invariant-loop-k
invariant-loop-k l = Scanning (λ (k : ℕ). time_fits (get_or (records_of l.words l.values).copies k no_copy).expiry) l.n l.ok l.k
