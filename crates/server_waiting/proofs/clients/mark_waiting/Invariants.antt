use mathlib.Core.Path.{◌≡◌}
use Prim.Native.Nat.{◌-◌}
use Rattle.laws.specs.Loop.{fold_from}
use Rattle.server_marks.specs.SessionWords.{sessions_of, OnlySessions}
use Rattle.server_waiting.specs.Waiting.{mark_if_in}
use Rattle.server_waiting.proofs.clients.mark_waiting.Given as goal

abbrev pub invariant-loop-client : goal.invariant-loop-client
invariant-loop-client l =
    let one-turn = mark_if_in l.waiting l.volume in
    OnlySessions l.initial.words l.words
    × (fold_from one-turn (sessions_of l.words) l.client (l.n - l.client) ≡ fold_from one-turn (sessions_of l.initial.words) 0 l.n)
