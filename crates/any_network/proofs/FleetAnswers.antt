-- A fleet answers every move as the net that it represents does.
-- Letters: those of FleetRuns; c is a copy, q a request, d client, k a message's kind, b its set, m a message, j its place.
use Rattle.std.specs.Prelude.{ℕ, Bool, cond, List, ◌≡◌}
use Rattle.std.proofs.Math.Bool.{true, false}
use Rattle.std.proofs.Common.{⊎_elim, sym, ◌∙◌}
use Rattle.std.proofs.Math.Path.{refl, ap}
use Rattle.laws.specs.Choice.{true_or_false, cond_keeps}
use Rattle.laws.specs.Lists.{remove_at}
use Rattle.protocol.specs.declared.message.Message.{Message}
use Rattle.protocol.specs.declared.records.Copy.{Copy}
use Rattle.protocol.specs.declared.setup.Setup.{Setup}
use Rattle.protocol.specs.declared.step.Answer.TheVariants as answer
use Rattle.protocol.specs.declared.step.Step.{Step}
use Rattle.protocol.specs.declared.tables.Tables.{Tables}
use Rattle.protocol.specs.declared.message.Kind.{Kind}
use Rattle.protocol.specs.declared.message.Kind.TheVariants.{Renew, Grant, Invalidate, Ack, Offer, Dropped, Batch, Cleared}
use Rattle.protocol.specs.declared.records.Request.{Request}
use Rattle.protocol.specs.Setup.{in_range, volume_of}
use Rattle.protocol.proofs.Ranges.{ranges}
use Rattle.protocol.specs.Messages.{empty_queue, pushed, removed}
use Rattle.protocol.specs.Tables.{with_queue, with_views}
use Rattle.protocol.specs.Writes.{settled, clock_staged, write_staged, Counted}
use Rattle.protocol.specs.Server.{ack_staged, drop_staged}
use Rattle.protocol.specs.Client.{showable, stands}
use Rattle.protocol.specs.Answers.{completed_answer}
use Rattle.protocol.specs.Gate.{known, exists, refusal_of_step, refusal}
use Rattle.protocol.specs.Decide.{kept, answered, read_decided, ask_decided, restart_decided, Received, received, grant_received, invalidate_received, offer_received, batch_received, deliver_decided}
use Rattle.protocol.specs.World.{World, target, answer_of}
use Rattle.protocol.specs.Ledger.{accepts}
use Rattle.protocol.specs.Soundness.StepCases.{copy_of, request_of}
use Rattle.protocol.proofs.Soundness.StepCases.{by_kind, performed_of, accepted_answer_law, refused_answer, client_exists, object_exists, clock_performed, read_performed, ask_performed, write_performed, server_performed, client_performed, deliver_performed}
use Rattle.protocol.specs.Safety.View.{copy_at}
use Rattle.protocol.proofs.Soundness.Question.{sounds}
use Rattle.any_network.specs.Network.{Net, Move, own, arrival, listing, one, arriving, sent_at, receive, answer_to}
use Rattle.any_network.specs.Lists.{In}
use Rattle.any_network.proofs.Lists.{sent_in}
use Rattle.any_network.proofs.Kept.{arrival_accepted}
use Rattle.any_network.specs.Invariant.{NetOk}
use Rattle.any_network.specs.Halves.{ServerReply, copy_in, server_clock, server_write, client_shows, tables_for, server_receive}
use Rattle.any_network.specs.Fleet.{Fleet, done_answer, read_answer, own_answer, arrival_answer, fleet_answer}
use Rattle.any_network.specs.Blind.{Blind, reviewed}
use Rattle.any_network.proofs.Blind.{clock_blind, write_blind, ack_blind, drop_blind}
use Rattle.any_network.specs.Represents.{Represents}
use Rattle.any_network.proofs.Represents.{blind_reply, same_refusal}
use Rattle.any_network.proofs.FleetRuns.{own_target, facts, placeless, same_gate}

module _ (s : Setup) (i : in_range s ≡ true) (n : Net) (f : Fleet) (ok : NetOk s n) (r : Represents s n f) where
  abbrev w : World
  w = n.world

  abbrev t : Tables
  t = with_queue w.tables empty_queue

  abbrev bare : World
  bare = listing w empty_queue

  module _ (x : Step) (a : accepts s bare x ≡ true) where
    pub own_copy : copy_of s bare x ≡ copy_at s w.copies x.client x.object
    own_copy = rw (own_target s i n f ok r x a)

    read_answer_law : x.kind ≡ 2 → (performed_of s bare x).outcome.answer ≡ read_answer (client_shows s (f.clients x.client) x.object) (copy_in (f.clients x.client) x.object).value
    unfolding read_decided showable
    read_answer_law e =
        let hd = client_exists (facts s i n f ok r x a).passes (rw e) in
        let ho = object_exists (facts s i n f ok r x a).passes (rw e) in
        let c = r.clients x.client hd in
        let q = own_copy ∙ c.copy x.object ho in
        rw (read_performed s t (copy_of s bare x) (request_of s bare x) x e, q, c.clock, c.expiry (volume_of s x.object) ((ranges s i).within x.object ho))
        (shown_by (client_shows s (f.clients x.client) x.object) (copy_in (f.clients x.client) x.object).value t)
      where
        shown_by : (b : Bool) (y : ℕ) (u : Tables) → (cond b (answered kept u (answer.Shown y)) (answered kept u answer.AskFirst)).outcome.answer ≡ read_answer b y
        shown_by true y u = refl
        shown_by false y u = refl

    clock_answer : x.kind ≡ 1 → (performed_of s bare x).outcome.answer ≡ completed_answer (server_clock s f.server x.clock).count
    clock_answer e =
        let g = blind_reply (λ (u : Tables). settled s (clock_staged s u x.clock)) w.tables (clock_blind s t x.clock) f.server r.server in
        rw (clock_performed s t (copy_of s bare x) (request_of s bare x) x e) (ap (λ (y : ServerReply). completed_answer y.count) g.0)

    write_answer : x.kind ≡ 4 → (performed_of s bare x).outcome.answer ≡ completed_answer (server_write s f.server x.object x.value).count
    write_answer e =
        let g = blind_reply (λ (u : Tables). settled s (write_staged s u x.object x.value)) w.tables (write_blind s t x.object x.value) f.server r.server in
        rw (write_performed s t (copy_of s bare x) (request_of s bare x) x e) (ap (λ (y : ServerReply). completed_answer y.count) g.0)

    done_ask : x.kind ≡ 3 → (performed_of s bare x).outcome.answer ≡ answer.Done
    unfolding ask_decided
    done_ask e = rw (ask_performed s t (copy_of s bare x) (request_of s bare x) x e)

    done_client : x.kind ≡ 9 → (performed_of s bare x).outcome.answer ≡ answer.Done
    unfolding restart_decided
    done_client e = rw (client_performed s t (copy_of s bare x) (request_of s bare x) x e)

    accepted_answers : (performed_of s bare x).outcome.answer ≡ done_answer s f x
    accepted_answers =
        by_kind ((performed_of s bare x).outcome.answer ≡ done_answer s f x) x (facts s i n f ok r x a).passes.knows
        (λ e. clock_answer e ∙ sym (rw e)) (λ e. read_answer_law e ∙ sym (rw e)) (λ e. done_ask e ∙ sym (rw e)) (λ e. write_answer e ∙ sym (rw e))
        (λ e. absurd (placeless s i n f ok r x a (rw e))) (λ e. absurd (placeless s i n f ok r x a (rw e))) (λ e. absurd (placeless s i n f ok r x a (rw e)))
        (λ e. rw (server_performed s t (copy_of s bare x) (request_of s bare x) x e, e)) (λ e. done_client e ∙ sym (rw e))

  own_answer_law : (x : Step) → answer_to s n (own x) ≡ own_answer s f x
  own_answer_law x =
      ⊎_elim (λ a. rw (same_gate s i n f ok r x true a) (accepted_answer_law s bare x a ∙ accepted_answers x a))
      (λ a. rw (same_gate s i n f ok r x false a) (refused_answer s bare x a ∙ ap answer.Refused (same_refusal s i n f ok r x))) (true_or_false (accepts s bare x))

  -- ---- a message arrives
  counted : (rule : Tables → Counted) → Blind reviewed (λ u. rule (with_views t u)) → (rule t).count ≡ (rule (tables_for f.server)).count
  counted rule b = ap (λ (g : ServerReply). g.count) (blind_reply rule w.tables b f.server r.server).0

  received_count : (c : Copy) (q : Request) (d : ℕ) (k : Kind) → (received s t c q d k).counted.count ≡ (server_receive s f.server d k).count
  unfolding received grant_received invalidate_received offer_received batch_received
  received_count c q d (Renew o m e v) = refl
  received_count c q d (Grant o m x e v y p) = cond_keeps (λ (g : Received). g.counted.count ≡ 0) (stands q m) (λ a. refl) (λ a. refl)
  received_count c q d (Invalidate o e v) = refl
  received_count c q d (Ack o e v) = counted (λ (u : Tables). settled s (ack_staged s u d o e v)) (ack_blind s t d o e v)
  received_count c q d (Offer v m e) = cond_keeps (λ (g : Received). g.counted.count ≡ 0) (stands q m) (λ a. refl) (λ a. refl)
  received_count c q d (Dropped v m e) = counted (λ (u : Tables). settled s (drop_staged s u d v m e)) (drop_blind s t d v m e)
  received_count c q d (Batch v m e b) = cond_keeps (λ (g : Received). g.counted.count ≡ 0) (stands q m) (λ a. refl) (λ a. refl)
  received_count c q d (Cleared v m e b) = refl

  arrival_answers : (m : Message) → In m n.sent → answer_of s (listing w (one m)) receive ≡ answer.Delivered m (server_receive s f.server m.client m.kind).count
  unfolding deliver_decided pushed removed remove_at target
  arrival_answers m z =
      accepted_answer_law s (listing w (one m)) receive (arrival_accepted s i n ok m z)
      ∙ rw (deliver_performed s (with_queue w.tables (one m)) (copy_of s (listing w (one m)) receive) (request_of s (listing w (one m)) receive) receive refl)
      (ap (answer.Delivered m) (received_count (copy_of s (listing w (one m)) receive) (request_of s (listing w (one m)) receive) m.client m.kind))

  pub none_accepted : accepts s bare receive ≡ false
  none_accepted = ⊎_elim (λ a. absurd (placeless s i n f ok r receive a refl)) (λ a. a) (true_or_false (accepts s bare receive))

  none_answers : answer_of s bare receive ≡ answer.Refused 3
  unfolding refusal refusal_of_step known exists
  none_answers = refused_answer s bare receive none_accepted ∙ ap answer.Refused (rw (sounds s bare ok.sound i))

  arrival_alike : (j : ℕ) (l : List Message) → n.sent ≡ l → answer_of s (listing w (arriving (sent_at n.sent j))) receive ≡ arrival_answer s f (sent_at l j)
  arrival_alike j l e = rw (← e) (⊎_elim (λ a. rw a none_answers) (λ a. rw a.2 (arrival_answers a.0 a.1)) (sent_in n.sent j))

  pub same_answer : (y : Move) → answer_to s n y ≡ fleet_answer s f y
  same_answer (own x) = own_answer_law x
  same_answer (arrival j) = arrival_alike j f.sent r.sent
