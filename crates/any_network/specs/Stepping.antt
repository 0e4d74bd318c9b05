-- A step on a world with any message list: whatever else is in the list stays there, and what is sent goes to its end.
-- Letters: s setup, w world, x a step, q a message list, m a message, c a copy, r a request, k what is framed; a and e are facts.
use Rattle.std.specs.Prelude.{◌<◌, ◌≤◌, List, ◌≡◌, length}
use Rattle.std.proofs.Math.Bool.{true}
use Rattle.protocol.specs.declared.message.Message.{Message}
use Rattle.protocol.specs.declared.message.Queue.{Queue}
use Rattle.protocol.specs.declared.setup.Setup.{Setup}
use Rattle.protocol.specs.declared.step.Step.{Step}
use Rattle.protocol.specs.Messages.{message_at, removed}
use Rattle.protocol.specs.World.{World, stepped}
use Rattle.protocol.specs.Ledger.{accepts}
use Rattle.any_network.specs.Network.{listing}
use Rattle.any_network.specs.Lists.{push_all}

-- what a step leaves whatever list p it finds: the same rest, and what it sends behind q, which is p or what p has left when a message is received
pub record Leaves (s : Setup) (w : World) (x : Step) (seen : Queue → Queue → Type 0) : Type 0 where
  pub rest : World
  pub out : List Message
  pub few : length out ≤ 16
  pub same : (p q : Queue) → seen p q → accepts s (listing w p) x ≡ true → stepped s (listing w p) x ≡ listing rest (push_all q out)

-- ---- message m is received: it is first in the list p that is found, and the others are q
pub record First (m : Message) (p q : Queue) : Type 0 where
  pub there : 0 < p.len
  pub first : message_at p 0 ≡ m
  pub others : removed p 0 ≡ q
