-- The message list changes: a message is lost, doubled or sent. It enters only through what is in it.
use Rattle.std.specs.Prelude.{ℕ, ◌<◌}
use Rattle.protocol.specs.declared.message.Queue.{Queue}
use Rattle.protocol.specs.declared.message.Kind.{Kind}
use Rattle.protocol.specs.declared.setup.Setup.{Setup}
use Rattle.protocol.specs.Tables.{with_queue}
use Rattle.protocol.specs.World.{World}
use Rattle.protocol.specs.Safety.Invariant.{Sent, from, KindOk}

abbrev pub listing : World → Queue → World
listing w q = record { tables = with_queue w.tables q; copies = w.copies; requests = w.requests }

-- ---- a change of anything else keeps the clause of each message if it keeps that of each kind

abbrev pub Keeps : Setup → World → World → Type 0
Keeps s w w' = (d : ℕ) (g : Kind) → Sent w.tables.queue (from d g) → d < s.clients → KindOk s w d g → KindOk s w' d g
