-- The steps of the policy, and the read after them: each is accepted, and what it leaves.
use Rattle.std.specs.Prelude.{ℕ, set}
use Rattle.protocol.specs.declared.message.Kind.{Kind}
use Rattle.protocol.specs.declared.setup.Setup.{Setup}
use Rattle.protocol.specs.Messages.{object_of}
use Rattle.protocol.specs.Server.{sent}
use Rattle.protocol.specs.Client.{renewal, numbered}
use Rattle.protocol.specs.Decide.{taken, received}
use Rattle.protocol.specs.World.{World}
use Rattle.protocol.specs.Safety.View.{copy_at, request_at}
use Rattle.protocol.specs.Safety.Delivering.{receiving}

-- the world after an ask of client d for object o
abbrev pub asking : Setup → World → ℕ → ℕ → World
asking s w d o = record {
  tables = sent w.tables (renewal s w.tables (copy_at s w.copies d o) (request_at w.requests d) d o);
  copies = w.copies;
  requests = set w.requests d (numbered (request_at w.requests d) o);
}

-- the world after client d's message g at place 0 is delivered
abbrev pub delivering : Setup → World → ℕ → Kind → World
delivering s w d g = receiving s w d g (received s (taken w.tables 0) (copy_at s w.copies d (object_of g)) (request_at w.requests d) d g)
