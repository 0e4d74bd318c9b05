-- A move of client d: afterwards the world has of it what its half has, and nothing changes for the others. So the fleet still represents the net.
-- Letters: those of Represents; d is the client, k another, g the reply of its half, m that the messages are those sent, e that the server's tables stay.
use Rattle.std.specs.Prelude.{ℕ, ◌<◌, ◌≡◌}
use Rattle.std.proofs.Common.{⊎_elim, ap, ◌∙◌}
use Rattle.laws.specs.Choice.{same?}
use Rattle.laws.specs.Updated.{updated, updated_same, updated_other}
use Rattle.protocol.specs.declared.setup.Setup.{Setup}
use Rattle.protocol.specs.Messages.{messages, empty_queue}
use Rattle.protocol.specs.Tables.{view_epoch_at, view_expiry_at}
use Rattle.protocol.specs.World.{World}
use Rattle.protocol.specs.Safety.View.{copy_at, request_at}
use Rattle.any_network.specs.Network.{Net, listing, after}
use Rattle.any_network.specs.Halves.{ServerHalf, ClientHalf, ClientReply, server_in}
use Rattle.any_network.specs.Fleet.{Fleet, by_client}
use Rattle.any_network.specs.Represents.{IsClient, Represents}

module _ (s : Setup) (n : Net) (f : Fleet) (r : Represents s n f) (d : ℕ) where
  -- nothing changes that another client knows, holds or asks for
  pub record Others (w : World) : Type 0 where
    pub epoch : (k v : ℕ) → v < s.volumes → (k ≡ d → ⊥) → view_epoch_at w.tables k v ≡ view_epoch_at n.world.tables k v
    pub expiry : (k v : ℕ) → v < s.volumes → (k ≡ d → ⊥) → view_expiry_at w.tables k v ≡ view_expiry_at n.world.tables k v
    pub copy : (k o : ℕ) → o < s.objects → (k ≡ d → ⊥) → copy_at s w.copies k o ≡ copy_at s n.world.copies k o
    pub request : (k : ℕ) → (k ≡ d → ⊥) → request_at w.requests k ≡ request_at n.world.requests k

  pub client_moves : (w : World) (g : ClientReply) → server_in w.tables ≡ server_in n.world.tables → messages w.tables.queue ≡ g.out
      → IsClient s w d g.half → Others w → Represents s (after n w) (by_client f d g)
  client_moves w g e m mine o = record {
    server = e ∙ r.server;
    clients = λ k hk. ⊎_elim (λ a. here k a) (λ a. there k hk a) (same? k d);
    sent = rw (m, r.sent);
  }
    where
      clock_same : w.tables.clock ≡ n.world.tables.clock
      clock_same = ap (λ (h : ServerHalf). h.clock) e

      at_d : (k : ℕ) → k ≡ d → updated f.clients d g.half k ≡ g.half
      at_d k a = rw a (updated_same f.clients d g.half)

      own_is : (k : ℕ) → k ≡ d → (z : ClientHalf) → z ≡ g.half → IsClient s (listing w empty_queue) k z
      own_is k a z b = rw (a, b) (record { clock = mine.clock; epoch = mine.epoch; expiry = mine.expiry; copy = mine.copy; request = mine.request; shape = mine.shape })

      here : (k : ℕ) → k ≡ d → IsClient s (listing w empty_queue) k (updated f.clients d g.half k)
      here k a = own_is k a (updated f.clients d g.half k) (at_d k a)

      other_is : (k : ℕ) → k < s.clients → (k ≡ d → ⊥) → (z : ClientHalf) → z ≡ f.clients k → IsClient s (listing w empty_queue) k z
      other_is k hk a z b =
          let c = r.clients k hk in
          rw b (record {
            clock = rw clock_same c.clock;
            epoch = λ v h. o.epoch k v h a ∙ c.epoch v h;
            expiry = λ v h. o.expiry k v h a ∙ c.expiry v h;
            copy = λ i h. o.copy k i h a ∙ c.copy i h;
            request = o.request k a ∙ c.request;
            shape = c.shape;
          })

      there : (k : ℕ) → k < s.clients → (k ≡ d → ⊥) → IsClient s (listing w empty_queue) k (updated f.clients d g.half k)
      there k hk a = other_is k hk a (updated f.clients d g.half k) (updated_other f.clients d k g.half a)
