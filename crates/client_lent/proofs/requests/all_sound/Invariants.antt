use Prim.Native.Nat.{ℕ}
use lib.ListN.{length, get_or}
use Rattle.laws.specs.Loop.{Scanning}
use Rattle.protocol.specs.Sound.{request_sound}
use Rattle.protocol.specs.Tables.{no_request}
use Rattle.client_lent.proofs.requests.all_sound.Given as goal

abbrev pub invariant-loop-request : goal.invariant-loop-request
invariant-loop-request l = Scanning (λ (k : ℕ). request_sound l.setup (get_or l.requests k no_request)) (length l.requests) l.ok l.request-index
