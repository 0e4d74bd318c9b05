-- What it means that a fleet represents a net; that a move of the server's keeps it so; and that both refuse the same steps.
-- Letters: those of Halves and Fleet; n is a net, w its world, t its tables, u what the clients know, q a request, r that the fleet represents the net.
use Rattle.std.specs.Prelude.{ℕ, ◌<◌, Bool, cond, not, ◌||◌, ◌≡◌}
use Rattle.std.proofs.Math.Bool.{true, false}
use Rattle.std.proofs.Common.{⊎_elim, sym, ap, ◌∙◌}
use Rattle.std.proofs.Math.Path.{refl}
use borrow.Author.Tests.{eqb-true, ltb-true}
use Rattle.laws.specs.Choice.{and-true, or_true, or_false}
use Rattle.protocol.specs.declared.records.Request.{Request}
use Rattle.protocol.specs.declared.setup.Setup.{Setup}
use Rattle.protocol.specs.declared.step.Step.{Step}
use Rattle.protocol.specs.declared.tables.Tables.{Tables}
use Rattle.protocol.specs.Setup.{in_range}
use Rattle.protocol.specs.Messages.{messages, empty_queue}
use Rattle.protocol.specs.Tables.{with_queue, with_views, no_request, fresh_views, fresh_tables}
use Rattle.protocol.specs.Leases.{client_clock}
use Rattle.protocol.specs.Sound.{can_grow}
use Rattle.protocol.specs.Gate.{is_clock, is_ask, is_write, is_restart_server, known, exists, timely, vacant, growable, or_refuse, refusal_of_step, refusal}
use Rattle.protocol.specs.Writes.{Counted}
use Rattle.protocol.specs.World.{World, target}
use Rattle.protocol.specs.Soundness.StepCases.{records_of, request_of}
use Rattle.protocol.proofs.Soundness.Question.{sounds}
use Rattle.any_network.specs.Network.{Net, listing, after}
use Rattle.any_network.specs.Invariant.{NetOk}
use Rattle.any_network.specs.Halves.{ServerHalf, ServerReply, tables_for, server_in, reply_in, server_refusal, client_refusal}
use Rattle.any_network.specs.Fleet.{Fleet, by_server, timed, servers_step, refusal_by}
use Rattle.any_network.specs.Blind.{Blind, reviewed}
use Rattle.any_network.specs.Represents.{Represents}

-- ---- the server's rules on the world's tables and on its half
pub blind_reply : (rule : Tables → Counted) (t : Tables) → Blind reviewed (λ u. rule (with_views (with_queue t empty_queue) u)) → (h : ServerHalf) → server_in t ≡ h
    → (reply_in (rule (with_queue t empty_queue)) ≡ reply_in (rule (tables_for h))) × ((rule (with_queue t empty_queue)).tables.views ≡ t.views)
blind_reply rule t k h e = (
  ap reply_in (k.same t.views) ∙ sym (ap reply_in (k.same fresh_views)) ∙ ap (λ (z : ServerHalf). reply_in (rule (tables_for z))) e,
  ap (λ (c : Counted). c.tables.views) (k.same t.views),
)

-- ---- what a move of the server's leaves
module _ (s : Setup) (n : Net) (f : Fleet) (r : Represents s n f) where
  abbrev w : World
  w = n.world

  abbrev leaving : Tables → World
  leaving t = record { tables = t; copies = w.copies; requests = w.requests }

  pub server_moves : (t : Tables) (g : ServerReply) → server_in t ≡ g.half → messages t.queue ≡ g.out → t.views ≡ w.tables.views → t.clock ≡ w.tables.clock
      → Represents s (after n (leaving t)) (by_server f g)
  server_moves t g a b v k = record {
    server = a;
    clients = λ d hd. let c = r.clients d hd in record {
      clock = rw k c.clock;
      epoch = λ u h. rw v (c.epoch u h);
      expiry = λ u h. rw v (c.expiry u h);
      copy = c.copy;
      request = c.request;
      shape = c.shape;
    };
    sent = rw (b, r.sent);
  }

  pub clock_moves : (t : Tables) (g : ServerReply) (T : ℕ) → server_in t ≡ g.half → messages t.queue ≡ g.out → t.views ≡ w.tables.views → t.clock ≡ T
      → Represents s (after n (leaving t)) (timed (by_server f g) T)
  unfolding client_clock
  clock_moves t g T a b v k = record {
    server = a;
    clients = λ d hd. let c = r.clients d hd in record {
      clock = k;
      epoch = λ u h. rw v (c.epoch u h);
      expiry = λ u h. rw v (c.expiry u h);
      copy = c.copy;
      request = c.request;
      shape = record { epoch = c.shape.epoch; expiry = c.shape.expiry; copies = c.shape.copies };
    };
    sent = rw (b, r.sent);
  }

-- ---- the questions
kind_not_ask : (x : Step) → servers_step x ≡ true → is_ask x ≡ false
kind_not_ask x e =
    ⊎_elim (λ a. ⊎_elim (λ b. rw (eqb-true x.kind 1 b)) (λ b. rw (eqb-true x.kind 4 b)) (or_true (is_clock x) (is_write x) a)) (λ a. rw (eqb-true x.kind 8 a))
    (or_true (is_clock x || is_write x) (is_restart_server x) e)

module _ (s : Setup) (t : Tables) where
  abbrev bare : Tables
  bare = with_queue t empty_queue

  gate_server : (q : Request) (x : Step) → servers_step x ≡ true → refusal_of_step s bare q x ≡ refusal_of_step s (tables_for (server_in t)) no_request x
  unfolding refusal_of_step exists timely vacant growable
  gate_server q x e = rw (kind_not_ask x e)

  exists_bare : (x : Step) → exists s bare x ≡ exists s fresh_tables x
  unfolding exists fresh_tables
  exists_bare x = refl

  timely_bare : (x : Step) → is_clock x ≡ false → timely bare x ≡ timely fresh_tables x
  unfolding timely
  timely_bare x e = rw e

  vacant_bare : (x : Step) → is_write x ≡ false → vacant bare x ≡ vacant fresh_tables x
  unfolding vacant
  vacant_bare x e = rw e

  asked_same : (ask : Bool) (q q' : Request) → (ask ≡ true → q ≡ q') → (not ask || can_grow q.next) ≡ (not ask || can_grow q'.next)
  asked_same true q q' a = ap (λ (k : Request). can_grow k.next) (a refl)
  asked_same false q q' a = refl

  growable_bare : (q q' : Request) (x : Step) → is_write x ≡ false → is_restart_server x ≡ false → (is_ask x ≡ true → q ≡ q') → growable s bare q x ≡ growable s fresh_tables q' x
  unfolding growable
  growable_bare q q' x e k a = rw (e, k) (asked_same (is_ask x) q q' a)

  asks_of_one : (x : Step) → exists s fresh_tables x ≡ true → is_ask x ≡ true → x.client < s.clients
  unfolding exists
  asks_of_one x e a = ltb-true _ _ (and-true _ _ (and-true _ _ (rw (eqb-true x.kind 3 a) at e)).0).0

  gate_client : (q q' : Request) (x : Step) → servers_step x ≡ false → (is_ask x ≡ true → x.client < s.clients → q ≡ q') → refusal_of_step s bare q x ≡ refusal_of_step s fresh_tables q' x
  unfolding refusal_of_step
  gate_client q q' x e a =
      let c = or_false (is_clock x || is_write x) (is_restart_server x) e in
      let b = or_false (is_clock x) (is_write x) c.0 in
      rw (exists_bare x, timely_bare x b.0, vacant_bare x b.1) (go (exists s fresh_tables x) refl b.1 c.1)
    where
      go : (there : Bool) → exists s fresh_tables x ≡ there → is_write x ≡ false → is_restart_server x ≡ false
          → or_refuse (known x) 2 (or_refuse there 3 (or_refuse (timely fresh_tables x) 4 (or_refuse (vacant fresh_tables x) 5 (or_refuse (growable s bare q x) 6 0))))
          ≡ or_refuse (known x) 2 (or_refuse there 3 (or_refuse (timely fresh_tables x) 4 (or_refuse (vacant fresh_tables x) 5 (or_refuse (growable s fresh_tables q' x) 6 0))))
      go true h k l = rw (growable_bare q q' x k l (λ y. a y (asks_of_one x h y)))
      go false h k l = refl

pub same_refusal : (s : Setup) → in_range s ≡ true → (n : Net) (f : Fleet) → NetOk s n → Represents s n f → (x : Step)
    → refusal s (with_queue n.world.tables empty_queue) (records_of s (listing n.world empty_queue)) (request_of s (listing n.world empty_queue) x) x ≡ refusal_by s f x
unfolding refusal target
same_refusal s i n f ok r x = rw (sounds s (listing n.world empty_queue) ok.sound i) (by (servers_step x) refl)
  where
    t : Tables
    t = n.world.tables

    q : Request
    q = request_of s (listing n.world empty_queue) x

    own_client : is_ask x ≡ true → (target s (with_queue t empty_queue) x).client ≡ x.client
    own_client a = rw (eqb-true x.kind 3 a)

    named : is_ask x ≡ true → x.client < s.clients → q ≡ (f.clients x.client).request
    named a h = rw (own_client a) (r.clients x.client h).request

    by : (b : Bool) → servers_step x ≡ b → refusal_of_step s (with_queue t empty_queue) q x ≡ cond b (server_refusal s f.server x) (client_refusal s (f.clients x.client) x)
    by true e = gate_server s t q x e ∙ ap (λ (h : ServerHalf). server_refusal s h x) r.server
    by false e = gate_client s t q (f.clients x.client).request x e named
