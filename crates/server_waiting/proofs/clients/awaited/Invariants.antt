use mathlib.Core.Path.{◌≡◌}
use Rattle.laws.specs.Sets.{set_of}
use Rattle.server_waiting.specs.Waiting.{waits_in}
use Rattle.server_waiting.proofs.clients.awaited.Given as goal

abbrev pub invariant-loop-client : goal.invariant-loop-client
invariant-loop-client l = l.waiting ≡ set_of (waits_in l.words l.volume l.object) l.client
