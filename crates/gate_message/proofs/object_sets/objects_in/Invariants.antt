use Prim.Native.Nat.{◌≤◌}
use mathlib.Core.Path.{◌≡◌}
use Rattle.laws.specs.Sets.{set_of}
use Rattle.protocol.specs.Setup.{in_volume}
use Rattle.gate_message.proofs.object_sets.objects_in.Given as goal

abbrev pub invariant-loop-object : goal.invariant-loop-object
invariant-loop-object l = (l.object ≤ l.setup.objects) × (l.set ≡ set_of (in_volume l.setup l.volume) l.object)
