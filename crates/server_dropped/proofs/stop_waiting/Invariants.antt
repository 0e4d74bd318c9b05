use mathlib.Core.Path.{◌≡◌}
use Prim.Native.Nat.{ℕ, ◌+◌, ◌-◌}
use Rattle.laws.specs.Loop.{fold_from}
use Rattle.laws.specs.Sets.{removed}
use Rattle.laws.specs.Shift.{Above}
use Rattle.laws.specs.Store.{store_at}
use Rattle.protocol.specs.Server.{of_volume}
use Rattle.state_words.specs.Fields.{at, WAITING}
use Rattle.server_waiting.specs.Waiting.{awaited_in}
use Rattle.server_dropped.proofs.stop_waiting.Given as goal

abbrev pub invariant-loop-object : goal.invariant-loop-object
invariant-loop-object l =
    let one-turn = store_at (of_volume l.setup l.volume) (λ (o : ℕ). at WAITING + o) (λ (o : ℕ). removed (awaited_in l.initial.words o) l.client) in
    Above l.initial.words l.words (at WAITING + l.object)
    × (fold_from one-turn l.words l.object (l.setup.objects - l.object) ≡ fold_from one-turn l.initial.words 0 l.setup.objects)
