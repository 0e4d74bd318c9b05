use mathlib.Core.Path.{◌≡◌}
use Prim.Native.Nat.{◌-◌}
use Rattle.laws.specs.Greatest.{raise_to}
use Rattle.laws.specs.Loop.{fold_from}
use Rattle.laws.specs.Sets.{bit_at}
use Rattle.server_waiting.specs.Waiting.{leased_in}
use Rattle.server_waiting.proofs.end.latest_end.Given as goal

abbrev pub invariant-loop-client : goal.invariant-loop-client
invariant-loop-client l =
    let one-turn = raise_to (bit_at l.waiting) (leased_in l.words l.volume l.object) in
    fold_from one-turn l.end l.client (l.n - l.client) ≡ fold_from one-turn l.least 0 l.n
