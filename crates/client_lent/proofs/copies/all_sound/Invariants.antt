use Prim.Native.Nat.{ℕ}
use lib.ListN.{length, get_or}
use Rattle.laws.specs.Loop.{Scanning}
use Rattle.protocol.specs.Sound.{time_fits}
use Rattle.protocol.specs.Tables.{no_copy}
use Rattle.client_lent.proofs.copies.all_sound.Given as goal

abbrev pub invariant-loop-copy : goal.invariant-loop-copy
invariant-loop-copy l = Scanning (λ (k : ℕ). time_fits (get_or l.copies k no_copy).expiry) (length l.copies) l.ok l.copy-index
