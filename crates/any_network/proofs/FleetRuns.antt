-- A fleet that represents a net still does so after every move, and so after every run.
-- Letters: those of Represents; x is a step, y a move, ys moves, a that a step is accepted.
use Rattle.std.specs.Prelude.{ℕ, ◌+◌, ◌*◌, Bool, true, false, ◌≡◌, eqb}
use Rattle.std.proofs.Common.{arith, ⊎_elim, sym, ap, ◌∙◌, ne_eqb}
use mathlib.Core.List.{List, [], ◌∷◌, append-nil}
use Rattle.std.proofs.Math.Path.{refl}
use Rattle.std.proofs.lemmas.List.{length-replicate, get_or-replicate}
use Rattle.std.proofs.Math.Seq.{set-get_or}
use Rattle.laws.specs.Choice.{true_or_false, cond_keeps}
use Rattle.laws.specs.Each.{replicate_at}
use Rattle.laws.specs.Loop.{fold_from}
use Rattle.protocol.specs.declared.message.Message.{Message}
use Rattle.protocol.specs.declared.setup.Setup.{Setup}
use Rattle.protocol.specs.declared.step.Answer.{Answer}
use Rattle.protocol.specs.declared.step.Decision.{Decision}
use Rattle.protocol.specs.declared.step.Step.{Step}
use Rattle.protocol.specs.declared.tables.Tables.{Tables}
use Rattle.protocol.specs.Setup.{in_range}
use Rattle.protocol.specs.Messages.{empty_queue}
use Rattle.protocol.specs.Tables.{by_volume, with_queue, with_views, no_copy, no_request, fresh_request, fresh_tables}
use Rattle.protocol.specs.Leases.{client_clock}
use Rattle.protocol.specs.Writes.{settled, clock_set, clock_staged, write_staged, written}
use Rattle.protocol.specs.Server.{server_restarted}
use Rattle.protocol.specs.Client.{showable, swept_all}
use Rattle.protocol.specs.Gate.{uses_place}
use Rattle.protocol.specs.Decide.{kept, answered, uncounted, read_decided, ask_decided, restart_decided}
use Rattle.protocol.specs.World.{World, target_at, target, world_after, stepped}
use Rattle.protocol.specs.Ledger.{accepts}
use Rattle.protocol.specs.Soundness.StepCases.{Accepted, copy_of, request_of, records_of}
use Rattle.protocol.proofs.Soundness.StepCases.{accepted, by_kind, performed_of, decision_accepted, refused_keeps, client_exists, object_exists, place_exists, clock_performed, read_performed, ask_performed, write_performed, server_performed, client_performed}
use Rattle.protocol.proofs.Safety.Sweeping.{swept_keep}
use Rattle.any_network.specs.Network.{Net, fresh_net, Move, own, arrival, listing, one, arriving, sent_at, receive, after, moved, moved_all}
use Rattle.any_network.specs.Lists.{In}
use Rattle.any_network.proofs.Lists.{sent_in}
use Rattle.any_network.proofs.Kept.{arrival_accepted, move_keeps, fresh_ok}
use Rattle.any_network.specs.Invariant.{NetOk}
use Rattle.any_network.specs.Halves.{ServerReply, server_clock, server_write, server_restart}
use Rattle.any_network.specs.Fleet.{Fleet, fresh_fleet, refusal_by, does, receives, arrives, fleet_moved, fleet_moved_all}
use Rattle.any_network.proofs.Framing.{then}
use Rattle.any_network.proofs.Blind.{settled_clock, clock_blind, write_blind, restart_blind}
use Rattle.any_network.specs.Represents.{Represents}
use Rattle.any_network.proofs.Represents.{blind_reply, server_moves, clock_moves, same_refusal}
use Rattle.any_network.proofs.ClientRules.{ask_moves, restart_moves}
use Rattle.any_network.proofs.FleetArrivals.{arrival_step, arrives_at}

module _ (s : Setup) (i : in_range s ≡ true) (n : Net) (f : Fleet) (ok : NetOk s n) (r : Represents s n f) where
  abbrev w : World
  w = n.world

  abbrev t : Tables
  t = with_queue w.tables empty_queue

  abbrev bare : World
  bare = listing w empty_queue

  -- nothing happens
  still : Represents s (after n bare) f
  still = record {
    server = r.server;
    clients = λ d hd. let c = r.clients d hd in record { clock = c.clock; epoch = c.epoch; expiry = c.expiry; copy = c.copy; request = c.request; shape = c.shape };
    sent = append-nil n.sent ∙ r.sent;
  }

  -- a step that leaves the records
  module _ (x : Step) (a : accepts s bare x ≡ true) where
    kept_leaves : (u : Tables) (y : Answer) → performed_of s bare x ≡ answered kept u y → stepped s bare x ≡ record { tables = u; copies = w.copies; requests = w.requests }
    unfolding stepped swept_all fold_from
    kept_leaves u y e = rw (decision_accepted s bare x a, e, set-get_or w.copies, set-get_or w.requests)

    pub facts : Accepted s t (records_of s bare) (request_of s bare x) x
    facts = accepted s bare x a

    pub placeless : uses_place x ≡ true → ⊥
    placeless h = let b = place_exists facts.passes h in omega arith

    pub own_target : target s t x ≡ target_at s x.client x.object
    unfolding target
    own_target = rw (ne_eqb x.kind 5 (λ e. placeless (rw e)))

    abbrev Does : Type 0
    Does = Represents s (after n (stepped s bare x)) (does s f x)

    by_clock : x.kind ≡ 1 → Does
    unfolding clock_set
    by_clock e =
        let g = blind_reply (λ (u : Tables). settled s (clock_staged s u x.clock)) w.tables (clock_blind s t x.clock) f.server r.server in
        rw (kept_leaves (settled s (clock_staged s t x.clock)).tables _ (clock_performed s t (copy_of s bare x) (request_of s bare x) x e), e)
        (clock_moves s n f r (settled s (clock_staged s t x.clock)).tables (server_clock s f.server x.clock) x.clock
        (ap (λ (y : ServerReply). y.half) g.0) (ap (λ (y : ServerReply). y.out) g.0) g.1 (settled_clock s (clock_staged s t x.clock)))

    write_clock : (settled s (write_staged s t x.object x.value)).tables.clock ≡ w.tables.clock
    unfolding written
    write_clock = settled_clock s (write_staged s t x.object x.value)

    by_write : x.kind ≡ 4 → Does
    by_write e =
        let g = blind_reply (λ (u : Tables). settled s (write_staged s u x.object x.value)) w.tables (write_blind s t x.object x.value) f.server r.server in
        rw (kept_leaves (settled s (write_staged s t x.object x.value)).tables _ (write_performed s t (copy_of s bare x) (request_of s bare x) x e), e)
        (server_moves s n f r (settled s (write_staged s t x.object x.value)).tables (server_write s f.server x.object x.value)
        (ap (λ (y : ServerReply). y.half) g.0) (ap (λ (y : ServerReply). y.out) g.0) g.1 write_clock)

    restart_clock : (server_restarted s t).clock ≡ w.tables.clock
    unfolding server_restarted
    restart_clock = refl

    by_restart : x.kind ≡ 8 → Does
    by_restart e =
        let g = blind_reply (λ (u : Tables). uncounted (server_restarted s u)) w.tables (then {put = with_views} uncounted (λ u v. refl) _ (restart_blind s t)) f.server r.server in
        rw (kept_leaves (server_restarted s t) _ (server_performed s t (copy_of s bare x) (request_of s bare x) x e), e)
        (server_moves s n f r (server_restarted s t) (server_restart s f.server) (ap (λ (y : ServerReply). y.half) g.0) (ap (λ (y : ServerReply). y.out) g.0) g.1 restart_clock)

    read_leaves : x.kind ≡ 2 → stepped s bare x ≡ bare
    unfolding read_decided
    read_leaves e =
        cond_keeps (λ (g : Decision). performed_of s bare x ≡ g → stepped s bare x ≡ bare) (showable s t (copy_of s bare x) x.client x.object) (λ b q. kept_leaves t _ q) (λ b q. kept_leaves t _ q)
        (read_performed s t (copy_of s bare x) (request_of s bare x) x e)

    by_read : x.kind ≡ 2 → Does
    by_read e = rw (read_leaves e, e) still

    -- a step that changes one client's records
    step_leaves : (g : Decision) → performed_of s bare x ≡ g → stepped s bare x ≡ world_after s bare (target_at s x.client x.object) g
    unfolding stepped
    step_leaves g e = rw (decision_accepted s bare x a, e, own_target)

    by_ask : x.kind ≡ 3 → Does
    unfolding ask_decided
    by_ask e =
        let hd = client_exists facts.passes (rw e) in
        let ho = object_exists facts.passes (rw e) in
        rw (step_leaves _ (ask_performed s t (copy_of s bare x) (request_of s bare x) x e), own_target, set-get_or w.copies, swept_keep s, e)
        (ask_moves s i n f r ok.sound.shape x.client hd x.object ho)

    by_client_law : x.kind ≡ 9 → Does
    unfolding restart_decided
    by_client_law e =
        let hd = client_exists facts.passes (rw e) in
        rw (step_leaves _ (client_performed s t (copy_of s bare x) (request_of s bare x) x e), set-get_or w.copies, e)
        (restart_moves s i n f r ok.sound.shape x.client hd)

    pub accepted_does : Does
    accepted_does =
        by_kind Does x facts.passes.knows by_clock by_read by_ask by_write
        (λ e. absurd (placeless (rw e))) (λ e. absurd (placeless (rw e))) (λ e. absurd (placeless (rw e))) by_restart by_client_law

  -- ---- a step of one's own, refused or not
  pub same_gate : (x : Step) (b : Bool) → accepts s bare x ≡ b → eqb (refusal_by s f x) 0 ≡ b
  same_gate x b a = ap (λ (k : ℕ). eqb k 0) (sym (same_refusal s i n f ok r x)) ∙ a

  pub own_moves : (x : Step) → Represents s (after n (stepped s bare x)) (fleet_moved s f (own x))
  own_moves x =
      ⊎_elim (λ a. rw (same_gate x true a) (accepted_does x a)) (λ a. rw (same_gate x false a, refused_keeps s bare x a) still) (true_or_false (accepts s bare x))

  -- ---- a message that was sent arrives
  arrival_moves : (m : Message) → In m n.sent → Represents s (after n (stepped s (listing w (one m)) receive)) (receives s f m.client m.kind)
  arrival_moves m z =
      let c = ok.messages m z in
      rw (arrival_step s w m (arrival_accepted s i n ok m z)) (arrives_at s i n f r ok.sound.shape m.client c.client m.kind c.kind)

  none_moves : Represents s (after n (stepped s bare receive)) f
  none_moves = ⊎_elim (λ a. absurd (placeless receive a refl)) (λ a. rw (refused_keeps s bare receive a) still) (true_or_false (accepts s bare receive))

  arrives_moves : (j : ℕ) (l : List Message) → n.sent ≡ l → Represents s (after n (stepped s (listing w (arriving (sent_at n.sent j))) receive)) (arrives s f (sent_at l j))
  arrives_moves j l e = rw (← e) (⊎_elim (λ a. rw a none_moves) (λ a. rw a.2 (arrival_moves a.0 a.1)) (sent_in n.sent j))

  pub fleet_moves : (y : Move) → Represents s (moved s n y) (fleet_moved s f y)
  unfolding moved
  fleet_moves (own x) = own_moves x
  fleet_moves (arrival j) = arrives_moves j f.sent r.sent

-- ---- a run
pub fresh_represents : (s : Setup) → Represents s (fresh_net s) (fresh_fleet s)
unfolding fresh_tables client_clock
fresh_represents s = record {
  server = refl;
  clients = λ d hd. record {
    clock = refl;
    epoch = λ v h. replicate_at 128 (by_volume d v) 0 ∙ sym (replicate_at 8 v 0);
    expiry = λ v h. replicate_at 128 (by_volume d v) 0 ∙ sym (replicate_at 8 v 0);
    copy = λ o h. replicate_at (s.clients * s.objects) (d * s.objects + o) no_copy ∙ sym (replicate_at s.objects o no_copy);
    request = get_or-replicate s.clients d fresh_request no_request hd;
    shape = record { epoch = refl; expiry = refl; copies = length-replicate _ _ };
  };
  sent = refl;
}

module _ (s : Setup) (i : in_range s ≡ true) where
  represents_from : (n : Net) (f : Fleet) (ys : List Move) → NetOk s n → Represents s n f → Represents s (moved_all s n ys) (fleet_moved_all s f ys)
  unfolding moved_all fleet_moved_all
  represents_from n f [] ok r = r
  represents_from n f (y ∷ ys) ok r = represents_from (moved s n y) (fleet_moved s f y) ys (move_keeps s i n ok y) (fleet_moves s i n f ok r y)

  pub represents : (ys : List Move) → Represents s (moved_all s (fresh_net s) ys) (fleet_moved_all s (fresh_fleet s) ys)
  represents ys = represents_from (fresh_net s) (fresh_fleet s) ys (fresh_ok s i) (fresh_represents s)
