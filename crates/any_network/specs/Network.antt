-- Any network. 01's message list holds 64; here every message ever sent is kept, and any of them may arrive next, however often and however late. A message
-- is lost if it never arrives, doubled if it arrives twice, and overtaken if a later one arrives first.
-- Letters: s setup, n a net, w world, q a message list, y a move, x a step, m a message, l messages, i a place among all that was sent.
use Rattle.std.specs.Prelude.{ℕ, zero, suc, List, [], ◌∷◌, ◌++◌}
use Rattle.protocol.specs.declared.message.Message.{Message}
use Rattle.protocol.specs.declared.message.Queue.{Queue}
use Rattle.protocol.specs.declared.setup.Setup.{Setup}
use Rattle.protocol.specs.declared.step.Answer.{Answer}
use Rattle.protocol.specs.declared.step.Step.{Step}
use Rattle.protocol.specs.Messages.{messages, pushed, empty_queue}
use Rattle.protocol.specs.Tables.{with_queue}
use Rattle.protocol.specs.World.{World, fresh_world, stepped, answer_of}
use Rattle.protocol.specs.Ledger.{Event, events}

-- The server's tables, the clients' tables and records, and every message ever sent, in sending order. The world's own message list is empty between two
-- moves: a step finds in it what arrives, and leaves in it what is sent. It never fills up, since a step sends at most one message to each client.
pub record Net : Type 0 where
  pub world : World
  pub sent : List Message

-- "The tables start fresh, with no message and no copy."
abbrev pub fresh_net : Setup → Net
fresh_net s = record { world = fresh_world s; sent = [] }

-- What may happen next: a step of one's own, which is 01's step 1, 2, 3, 4, 8 or 9 (5 to 7 find no message and are refused), or the arrival of what was
-- sent at place i.
pub data Move : Type 0 where
  own : (x : Step) → Move
  arrival : (i : ℕ) → Move

-- the world with another message list
abbrev pub listing : World → Queue → World
listing w q = record { tables = with_queue w.tables q; copies = w.copies; requests = w.requests }

-- what was sent at place i
pub data Arrived : Type 0 where
  nothing : Arrived
  something : (m : Message) → Arrived

unfoldable pub sent_at : List Message → ℕ → Arrived
sent_at [] i = nothing
sent_at (m ∷ l) zero = something m
sent_at (m ∷ l) (suc i) = sent_at l i

-- .. as a message list
abbrev pub one : Message → Queue
one m = pushed empty_queue m

abbrev pub arriving : Arrived → Queue
arriving nothing = empty_queue
arriving (something m) = one m

-- 01's step 5, "remove the message, then receive it", of place 0
abbrev pub receive : Step
receive = record { kind = 5; client = 0; object = 0; place = 0; clock = 0; value = 0 }

-- the world that a move finds, and 01's step that it takes there
abbrev pub found : Net → Move → World
found n (own x) = listing n.world empty_queue
found n (arrival i) = listing n.world (arriving (sent_at n.sent i))

abbrev pub step_of : Move → Step
step_of (own x) = x
step_of (arrival i) = receive

-- The net after a step that left w: what is in w's list was sent. What arrived is kept too, and may arrive again.
abbrev pub after : Net → World → Net
after n w = record { world = listing w empty_queue; sent = n.sent ++ messages w.tables.queue }

unfoldable pub moved : Setup → Net → Move → Net
moved s n y = after n (stepped s (found n y) (step_of y))

abbrev pub answer_to : Setup → Net → Move → Answer
answer_to s n y = answer_of s (found n y) (step_of y)

-- the events of a move, as the ledger reads them off the rules
abbrev pub events_of : Setup → Net → Move → List Event
events_of s n y = events s (found n y) (step_of y)

-- a run, each move on what the last one left
unfoldable pub moved_all : Setup → Net → List Move → Net
moved_all s n [] = n
moved_all s n (y ∷ ys) = moved_all s (moved s n y) ys

unfoldable pub answers_to : Setup → Net → List Move → List Answer
answers_to s n [] = []
answers_to s n (y ∷ ys) = answer_to s n y ∷ answers_to s (moved s n y) ys
