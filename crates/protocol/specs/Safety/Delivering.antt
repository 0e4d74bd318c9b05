-- Step 5, accepted: the message is removed, and received by its client or by the server.
use Rattle.std.specs.Prelude.{ℕ, ◌+◌, ◌*◌, set}
use Rattle.protocol.specs.declared.message.Kind.{Kind}
use Rattle.protocol.specs.declared.setup.Setup.{Setup}
use Rattle.protocol.specs.Messages.{object_of}
use Rattle.protocol.specs.Client.{turned, changed, swept_all}
use Rattle.protocol.specs.Decide.{Received}
use Rattle.protocol.specs.World.{World}
use Rattle.protocol.specs.Safety.View.{copy_at, request_at}

-- the world after client d's records and the tables became what a receipt says
abbrev pub receiving : Setup → World → ℕ → Kind → Received → World
receiving s w d k g = record {
  tables = g.counted.tables;
  copies = swept_all s g.change.sweep (d * s.objects) (set w.copies (d * s.objects + object_of k) (changed (copy_at s w.copies d (object_of k)) g.change.copy));
  requests = set w.requests d (turned (request_at w.requests d) g.change.request);
}
