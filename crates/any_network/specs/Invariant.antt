-- The invariant of demand 3 over all messages ever sent. What it says of messages it says of each and of each two. So it holds after a step if it holds of
-- any two that were sent before, in a message list of 64 places that has these two and what the step sends.
-- Letters: s setup, n a net, w and rest worlds, q a message list, m, g, a and b messages, l, ms and out lists of them; ok is what holds of the net.
use Rattle.protocol.specs.declared.message.Message.{Message}
use Rattle.protocol.specs.declared.setup.Setup.{Setup}
use Rattle.protocol.specs.Messages.{empty_queue}
use Rattle.protocol.specs.Soundness.Bounds.{Named}
use Rattle.protocol.specs.Soundness.Question.{SoundWorld}
use Rattle.protocol.specs.Safety.Invariant.{Inv, MessageOk, PairIn}
use Rattle.any_network.specs.Network.{Net, listing}
use Rattle.any_network.specs.Lists.{In}

pub record NetOk (s : Setup) (n : Net) : Type 0 where
  -- of the tables and records
  pub sound : SoundWorld s (listing n.world empty_queue)
  pub safe : Inv s (listing n.world empty_queue)
  -- of each message ever sent, and of each two
  pub named : (m : Message) → In m n.sent → Named s m
  pub messages : (m : Message) → In m n.sent → MessageOk s (listing n.world empty_queue) m
  pub pairs : (m g : Message) → In m n.sent → In g n.sent → PairIn s n.world m g
