use mathlib.Core.Path.{◌≡◌}
use Prim.Native.Nat.{◌≤◌, ◌-◌}
use Rattle.laws.specs.Loop.{first_from}
use Rattle.protocol.specs.Server.{waited_in}
use Rattle.state_words.specs.View.{numbers_of}
use Rattle.server_replies.proofs.lowest.lowest_waited.Given as goal

abbrev pub invariant-loop-object : goal.invariant-loop-object
invariant-loop-object l =
    let sought = waited_in l.setup (numbers_of l.words) l.client l.volume in
    (l.object ≤ l.setup.objects) × (first_from sought l.object (l.setup.objects - l.object) ≡ first_from sought 0 l.setup.objects)

abbrev pub decreases-loop-object : goal.decreases-loop-object
decreases-loop-object l = l.setup.objects - l.object
