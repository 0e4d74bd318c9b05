use mathlib.Core.Path.{◌≡◌}
use Prim.Native.Nat.{◌-◌}
use Rattle.laws.specs.Loop.{fold_from}
use Rattle.protocol.specs.Writes.{age_at}
use Rattle.server_marks.specs.SessionWords.{sessions_of, OnlySessions}
use Rattle.server_ageing.proofs.age_client.Given as goal

abbrev pub invariant-loop-volume : goal.invariant-loop-volume
invariant-loop-volume l =
    let one-turn = age_at l.setup l.clock l.client in
    OnlySessions l.initial.words l.words
    × (fold_from one-turn (sessions_of l.words) l.volume (l.setup.volumes - l.volume) ≡ fold_from one-turn (sessions_of l.initial.words) 0 l.setup.volumes)
