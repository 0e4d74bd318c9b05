use mathlib.Core.Path.{◌≡◌}
use Prim.Native.Nat.{ℕ, ◌+◌, ◌-◌}
use Rattle.laws.specs.Loop.{fold_from}
use Rattle.laws.specs.Store.{store_at, always}
use Rattle.protocol.specs.Tables.{by_object}
use Rattle.state_words.specs.Fields.{at, LEASE}
use Rattle.server_waiting.proofs.clients.clear_leases.Given as goal

abbrev pub invariant-loop-client : goal.invariant-loop-client
invariant-loop-client l =
    let one-turn = store_at {A = ℕ} always (λ (d : ℕ). at LEASE + by_object d l.object) (λ (d : ℕ). 0) in
    fold_from one-turn l.words l.client (l.n - l.client) ≡ fold_from one-turn l.initial.words 0 l.n
