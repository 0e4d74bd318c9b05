use mathlib.Core.Path.{◌≡◌}
use Prim.Native.Nat.{◌-◌}
use Rattle.laws.specs.Loop.{fold_from}
use Rattle.protocol.specs.Writes.{delay_if}
use Rattle.state_words.specs.View.{numbers_of}
use Rattle.server_marks.specs.SessionWords.{sessions_of, OnlySessions}
use Rattle.server_delays.proofs.delay.Given as goal

abbrev pub invariant-loop-client : goal.invariant-loop-client
invariant-loop-client l =
    let one-turn = delay_if l.setup (numbers_of l.initial.words) l.object in
    OnlySessions l.initial.words l.words
    × (fold_from one-turn (sessions_of l.words) l.client (l.setup.clients - l.client) ≡ fold_from one-turn (sessions_of l.initial.words) 0 l.setup.clients)
