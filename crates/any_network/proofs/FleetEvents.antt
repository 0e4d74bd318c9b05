-- In every move the same happens in a fleet as in the net that it represents.
-- Letters: those of FleetRuns; u is what the clients know, d client, k a message's kind, m a message, j its place.
use Rattle.std.specs.Prelude.{ℕ, zero, suc, ◌+◌, Bool, true, false, cond, List, [], map, ◌≡◌}
use Rattle.std.proofs.Common.{⊎_elim, sym, ◌∙◌}
use Rattle.std.proofs.Math.Path.{refl, ap}
use Rattle.laws.specs.Choice.{true_or_false}
use Rattle.laws.specs.Lists.{remove_at}
use Rattle.protocol.specs.declared.message.Message.{Message}
use Rattle.protocol.specs.declared.message.Kind.{Kind}
use Rattle.protocol.specs.declared.message.Kind.TheVariants.{Renew, Grant, Invalidate, Ack, Offer, Dropped, Batch, Cleared}
use Rattle.protocol.specs.declared.records.Copy.{Copy}
use Rattle.protocol.specs.declared.setup.Setup.{Setup}
use Rattle.protocol.specs.declared.step.Answer.{Answer}
use Rattle.protocol.specs.declared.step.Step.{Step}
use Rattle.protocol.specs.declared.tables.Tables.{Tables}
use Rattle.protocol.specs.declared.tables.Views.{Views}
use Rattle.protocol.specs.Setup.{in_range, volume_of}
use Rattle.protocol.proofs.Ranges.{ranges}
use Rattle.protocol.specs.Messages.{pushed, removed, empty_queue}
use Rattle.protocol.specs.Tables.{with_queue, with_views, fresh_views}
use Rattle.protocol.specs.Writes.{Staged, waits, delays, delayed, latest_end, opened, awaited, notified, written, settling, completed, clock_set, clock_staged, write_staged}
use Rattle.protocol.specs.Server.{ack_taken, acked, ack_staged, drop_taken, dropped, disowned, drop_staged}
use Rattle.protocol.specs.Client.{showable}
use Rattle.protocol.specs.World.{World}
use Rattle.protocol.specs.Ledger.{completion, completions, receipt_staged, read_events, happening, accepts, events}
use Rattle.protocol.specs.History.{answer_tells}
use Rattle.protocol.proofs.Bookkeeping.Happening.{clock_happening, read_happening, ask_happening, write_happening, deliver_happening, server_happening, client_happening}
use Rattle.protocol.specs.Soundness.StepCases.{copy_of}
use Rattle.protocol.proofs.Soundness.StepCases.{by_kind, client_exists, object_exists}
use Rattle.any_network.specs.Network.{Net, Move, step_of, own, arrival, listing, one, arriving, sent_at, receive, events_of}
use Rattle.any_network.specs.Lists.{In}
use Rattle.any_network.proofs.Lists.{sent_in}
use Rattle.any_network.proofs.Kept.{arrival_accepted}
use Rattle.any_network.specs.Invariant.{NetOk}
use Rattle.any_network.specs.Halves.{ServerHalf, tables_for}
use Rattle.any_network.specs.Fleet.{Fleet, happens_by, happens_at, fleet_events}
use Rattle.any_network.specs.Framing.{Unread}
use Rattle.any_network.proofs.Blind.{ready_unseen, due_unseen, ready_in_unseen}
use Rattle.any_network.specs.Represents.{Represents}
use Rattle.any_network.proofs.FleetRuns.{facts, placeless, same_gate}
use Rattle.any_network.proofs.FleetAnswers.{own_copy, none_accepted}

-- ---- which writes complete does not depend on what the clients know
settling_unseen : {s : Setup} {test : Tables → ℕ → Bool} → Unread with_views s test → (t : Tables) (u : Views) (j n : ℕ) → settling test s (with_views t u) j n ≡ settling test s t j n
unfolding settling
settling_unseen b t u j zero = refl
settling_unseen {s} b t u j (suc n) =
    rw (b.tested t u j, b.completes t u j, settling_unseen b (completed s t j) u (j + 1) n, settling_unseen b t u (j + 1) n)

module _ (s : Setup) (t : Tables) (u : Views) where
  abbrev v : Tables
  v = with_views t u

  clock_settles : (T : ℕ) → completions s (clock_staged s v T) ≡ completions s (clock_staged s t T)
  unfolding clock_set
  clock_settles T = ap (map completion) (settling_unseen (due_unseen s) (clock_set s t T) u 0 s.objects)

  write_settles : (o a : ℕ) → completions s (write_staged s v o a) ≡ completions s (write_staged s t o a)
  unfolding written notified opened awaited delayed delays waits latest_end
  write_settles o a = ap (map completion) (settling_unseen (ready_unseen s) (written s t o a) u o 1)

  write_ends : (o : ℕ) → latest_end s v o ≡ latest_end s t o
  unfolding latest_end waits
  write_ends o = refl

  staged_either : (b : Bool) (x y : Staged) (x' y' : Staged) → completions s x ≡ completions s x' → completions s y ≡ completions s y' → completions s (cond b x y) ≡ completions s (cond b x' y')
  staged_either true x y x' y' p q = p
  staged_either false x y x' y' p q = q

  receipt_settles : (d : ℕ) (k : Kind) → completions s (receipt_staged s v d k) ≡ completions s (receipt_staged s t d k)
  unfolding ack_staged ack_taken acked drop_staged drop_taken dropped disowned settling
  receipt_settles d (Renew o n e w) = refl
  receipt_settles d (Grant o n x e w y p) = refl
  receipt_settles d (Invalidate o e w) = refl
  receipt_settles d (Ack o e w) = staged_either (ack_taken s t o e w) _ _ _ _ (ap (map completion) (settling_unseen (ready_unseen s) (acked t d o) u o 1)) refl
  receipt_settles d (Offer x n e) = refl
  receipt_settles d (Dropped x n e) = staged_either (drop_taken t d x n e) _ _ _ _ (ap (map completion) (settling_unseen (ready_in_unseen s x) (dropped s t d x) u 0 s.objects)) refl
  receipt_settles d (Batch x n e m) = refl
  receipt_settles d (Cleared x n e m) = refl

events_accepted : (s : Setup) (w : World) (x : Step) → accepts s w x ≡ true → events s w x ≡ happening s w.tables (copy_of s w x) x
unfolding events
events_accepted s w x a = rw a

events_refused : (s : Setup) (w : World) (x : Step) → accepts s w x ≡ false → events s w x ≡ []
unfolding events
events_refused s w x a = rw a

-- ---- a step of one's own
module _ (s : Setup) (i : in_range s ≡ true) (n : Net) (f : Fleet) (ok : NetOk s n) (r : Represents s n f) where
  abbrev w : World
  w = n.world

  abbrev t : Tables
  t = with_queue w.tables empty_queue

  abbrev bare : World
  bare = listing w empty_queue

  -- what a rule makes of the world's tables it makes of the server's half
  on_server : {A : Type 0} (F : Tables → A) → F (with_views t fresh_views) ≡ F t → F t ≡ F (tables_for f.server)
  on_server F e = sym e ∙ ap (λ (h : ServerHalf). F (tables_for h)) r.server

  module _ (x : Step) (a : accepts s bare x ≡ true) where
    abbrev c : Copy
    c = copy_of s bare x

    read_happens : x.kind ≡ 2 → read_events s t c x.client x.object ≡ happens_by s f x
    unfolding showable
    read_happens e =
        let hd = client_exists (facts s i n f ok r x a).passes (rw e) in
        let ho = object_exists (facts s i n f ok r x a).passes (rw e) in
        let m = r.clients x.client hd in
        let q = own_copy s i n f ok r x a ∙ m.copy x.object ho in
        rw (q, m.clock, m.expiry (volume_of s x.object) ((ranges s i).within x.object ho), e)

    happens : happening s t c x ≡ happens_by s f x
    happens =
        by_kind (happening s t c x ≡ happens_by s f x) x (facts s i n f ok r x a).passes.knows
        (λ e. rw (clock_happening s t c x e, on_server (λ (u : Tables). completions s (clock_staged s u x.clock)) (clock_settles s t fresh_views x.clock), e))
        (λ e. read_happening s t c x e ∙ read_happens e)
        (λ e. rw (ask_happening s t c x e, e))
        (λ e. rw (write_happening s t c x e, on_server (λ (u : Tables). completions s (write_staged s u x.object x.value)) (write_settles s t fresh_views x.object x.value), on_server (λ (u : Tables). latest_end s u x.object) (write_ends s t fresh_views x.object), e))
        (λ e. absurd (placeless s i n f ok r x a (rw e)))
        (λ e. absurd (placeless s i n f ok r x a (rw e)))
        (λ e. absurd (placeless s i n f ok r x a (rw e)))
        (λ e. rw (server_happening s t c x e, e))
        (λ e. rw (client_happening s t c x e, e))

  own_events : (x : Step) → events_of s n (own x) ≡ fleet_events s f (own x)
  own_events x =
      ⊎_elim (λ a. events_accepted s bare x a ∙ happens x a ∙ sym (rw (same_gate s i n f ok r x true a))) (λ a. events_refused s bare x a ∙ sym (rw (same_gate s i n f ok r x false a)))
      (true_or_false (accepts s bare x))

  -- ---- arrivals
  arrival_events : (m : Message) → In m n.sent → events s (listing w (one m)) receive ≡ completions s (receipt_staged s (tables_for f.server) m.client m.kind)
  unfolding events pushed removed remove_at
  arrival_events m z =
      rw (arrival_accepted s i n ok m z, deliver_happening s (with_queue w.tables (one m)) (copy_of s (listing w (one m)) receive) receive refl)
      (on_server (λ (u : Tables). completions s (receipt_staged s u m.client m.kind)) (receipt_settles s t fresh_views m.client m.kind))

  none_events : events s bare receive ≡ []
  unfolding events
  none_events = rw (none_accepted s i n f ok r)

  arrival_alike : (j : ℕ) (l : List Message) → n.sent ≡ l → events s (listing w (arriving (sent_at n.sent j))) receive ≡ happens_at s f (sent_at l j)
  arrival_alike j l e = rw (← e) (⊎_elim (λ a. rw a none_events) (λ a. rw a.2 (arrival_events a.0 a.1)) (sent_in n.sent j))

  pub same_events : (y : Move) → events_of s n y ≡ fleet_events s f y
  same_events (own x) = own_events x
  same_events (arrival j) = arrival_alike j f.sent r.sent

  -- the latest end of a write is the same, so an answer tells the same
  pub same_told : (y : Move) (a : Answer) → answer_tells s w.tables (step_of y) a ≡ answer_tells s (tables_for f.server) (step_of y) a
  unfolding latest_end waits
  same_told y a = on_server (λ (u : Tables). answer_tells s u (step_of y) a) refl
