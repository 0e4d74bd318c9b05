-- What it means that a fleet represents a net; that a move of the server's keeps it so; and that both refuse the same steps.
-- Letters: those of Halves and Fleet; n is a net, w its world, t its tables, u what the clients know, q a request, r that the fleet represents the net.
use Rattle.std.specs.Prelude.{ℕ, ◌<◌, ◌≡◌, length}
use Rattle.protocol.specs.declared.setup.Setup.{Setup}
use Rattle.protocol.specs.Tables.{view_epoch_at, view_expiry_at}
use Rattle.protocol.specs.Leases.{client_clock}
use Rattle.protocol.specs.World.{World}
use Rattle.protocol.specs.Safety.View.{copy_at, request_at}
use Rattle.any_network.specs.Network.{Net}
use Rattle.any_network.specs.Halves.{ClientHalf, epoch_in, expiry_in, copy_in, server_in}
use Rattle.any_network.specs.Fleet.{Fleet}

-- the lengths of a client's lists
pub record ClientShape (s : Setup) (c : ClientHalf) : Type 0 where
  pub epoch : length c.epoch ≡ 8
  pub expiry : length c.expiry ≡ 8
  pub copies : length c.copies ≡ s.objects

-- the half has what the world has of client d, for the volumes and objects that exist
pub record IsClient (s : Setup) (w : World) (d : ℕ) (c : ClientHalf) : Type 0 where
  pub clock : client_clock w.tables.clock d ≡ c.clock
  pub epoch : (v : ℕ) → v < s.volumes → view_epoch_at w.tables d v ≡ epoch_in c v
  pub expiry : (v : ℕ) → v < s.volumes → view_expiry_at w.tables d v ≡ expiry_in c v
  pub copy : (o : ℕ) → o < s.objects → copy_at s w.copies d o ≡ copy_in c o
  pub request : request_at w.requests d ≡ c.request
  pub shape : ClientShape s c

pub record Represents (s : Setup) (n : Net) (f : Fleet) : Type 0 where
  pub server : server_in n.world.tables ≡ f.server
  pub clients : (d : ℕ) → d < s.clients → IsClient s n.world d (f.clients d)
  pub sent : n.sent ≡ f.sent
