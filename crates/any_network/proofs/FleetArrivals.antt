-- A message arrives: in the net by 01's step 5, in the fleet at the half that it is for. The fleet still represents the net.
-- Letters: those of Represents; d is the client, k a message's kind, a the set of a BATCH.
use Rattle.std.specs.Prelude.{ℕ, ◌+◌, ◌*◌, ◌<◌, Bool, true, false, cond, [], ◌∷◌, ◌≡◌, refl, ltb, set, Option}
use Rattle.std.proofs.Common.{ap, ◌∙◌}
use Rattle.std.proofs.lemmas.List.{set-get_or}
use Rattle.laws.specs.Choice.{cond_keeps}
use Rattle.laws.specs.Lists.{remove_at}
use Rattle.protocol.specs.declared.message.Message.{Message}
use Rattle.protocol.specs.declared.message.Kind.{Kind}
use Rattle.protocol.specs.declared.message.Kind.TheVariants.{Renew, Grant, Invalidate, Ack, Offer, Dropped, Batch, Cleared}
use Rattle.protocol.specs.declared.records.Copy.{Copy}
use Rattle.protocol.specs.declared.records.Request.{Request}
use Rattle.protocol.specs.declared.setup.Setup.{Setup}
use Rattle.protocol.specs.declared.step.CopyChange.TheVariants as copy
use Rattle.protocol.specs.declared.step.Sweep.TheVariants as sweep
use Rattle.protocol.specs.declared.step.Turn.TheVariants as request
use Rattle.protocol.specs.declared.tables.Tables.{Tables}
use Rattle.protocol.specs.Setup.{in_range, volume_of}
use Rattle.protocol.specs.Messages.{message, pushed, removed, object_of, empty_queue}
use Rattle.protocol.specs.Tables.{with_queue, with_views, no_copy, no_request}
use Rattle.protocol.specs.Writes.{Counted, Staged, settled}
use Rattle.protocol.specs.Server.{sent, noted, offered, has_notes, batched, lowest_waited, volume_renewed, object_renewed, granted, must_drop, being_written, renewed_by, stale, renewed, ack_taken, acked, ack_staged, drop_taken, dropped, drop_staged, clear_taken, notes_dropped, notes_cleared}
use Rattle.protocol.specs.Client.{stands, filled, grant_stored, viewed}
use Rattle.protocol.specs.Decide.{Received, kept, by_client as takes, uncounted, received, grant_received, invalidate_received, offer_received, batch_received, deliver_decided}
use Rattle.protocol.specs.World.{World, target, stepped}
use Rattle.protocol.specs.Ledger.{accepts}
use Rattle.protocol.specs.Soundness.StepCases.{request_of, copy_of}
use Rattle.protocol.proofs.Soundness.StepCases.{decision_accepted, deliver_performed}
use Rattle.protocol.specs.Soundness.Shape.{WorldShape}
use Rattle.protocol.specs.Safety.View.{copy_at, request_at}
use Rattle.protocol.specs.Safety.Invariant.{KindOk}
use Rattle.protocol.proofs.Safety.Sweeping.{swept_keep}
use Rattle.protocol.specs.Safety.Delivering.{receiving}
use Rattle.any_network.specs.Network.{Net, listing, one, receive, after}
use Rattle.any_network.specs.Halves.{ServerReply, ClientHalf, copy_in, tables_for, reply_in, client_granted, client_offered, client_forgets, quietly}
use Rattle.any_network.specs.Fleet.{Fleet, by_server, by_client, receives}
use Rattle.any_network.proofs.Framing.{then}
use Rattle.any_network.specs.Blind.{Blind, reviewed}
use Rattle.any_network.proofs.Blind.{settled_clock, renewed_blind, ack_blind, drop_blind, clear_blind}
use Rattle.any_network.specs.Represents.{Represents}
use Rattle.any_network.proofs.Represents.{blind_reply, server_moves}
use Rattle.any_network.proofs.ClientMoves.{client_moves}
use Rattle.any_network.proofs.ClientRules.{grant_moves, invalidate_moves, offer_moves, batch_moves}

-- 01's step 5 on the one message
pub arrival_step : (s : Setup) (w : World) (m : Message) → accepts s (listing w (one m)) receive ≡ true
    → stepped s (listing w (one m)) receive ≡ receiving s w m.client m.kind (received s (with_queue w.tables empty_queue) (copy_at s w.copies m.client (object_of m.kind)) (request_at w.requests m.client) m.client m.kind)
unfolding stepped target deliver_decided pushed removed remove_at
arrival_step s w m a =
    rw (decision_accepted s (listing w (one m)) receive a, deliver_performed s (with_queue w.tables (one m)) (copy_of s (listing w (one m)) receive) (request_of s (listing w (one m)) receive) receive refl)

-- ---- the clock stays
module _ (s : Setup) (t : Tables) where
  renewed_clock : (d o n e w : ℕ) → (renewed s t d o n e w).clock ≡ t.clock
  unfolding renewed renewed_by noted offered batched volume_renewed object_renewed granted
  renewed_clock d o n e w =
      cond_keeps (λ (x : Tables). x.clock ≡ t.clock) (stale t d n) (λ a. refl)
      (λ a. cond_keeps (λ (x : Tables). x.clock ≡ t.clock) (must_drop (noted t d n) d (volume_of s o) e) (λ b. refl)
      (λ b. cond_keeps (λ (x : Tables). x.clock ≡ t.clock) (has_notes t d (volume_of s o)) (λ k. refl)
      (λ k. cond_keeps (λ (x : Tables). x.clock ≡ t.clock) (ltb (lowest_waited s (noted t d n) d (volume_of s o)) s.objects) (λ c. refl)
      (λ c. cond_keeps (λ (x : Tables). x.clock ≡ t.clock) (being_written t o) (λ l. refl) (λ l. refl)))))

  ack_clock : (d o e w : ℕ) → (settled s (ack_staged s t d o e w)).tables.clock ≡ t.clock
  unfolding ack_staged acked
  ack_clock d o e w = settled_clock s (ack_staged s t d o e w) ∙ cond_keeps (λ (g : Staged). g.tables.clock ≡ t.clock) (ack_taken s t o e w) (λ a. refl) (λ a. refl)

  drop_clock : (d v n e : ℕ) → (settled s (drop_staged s t d v n e)).tables.clock ≡ t.clock
  unfolding drop_staged dropped
  drop_clock d v n e = settled_clock s (drop_staged s t d v n e) ∙ cond_keeps (λ (g : Staged). g.tables.clock ≡ t.clock) (drop_taken t d v n e) (λ a. refl) (λ a. refl)

  clear_clock : (d v n e m : ℕ) → (notes_cleared s t d v n e m).clock ≡ t.clock
  unfolding notes_cleared notes_dropped
  clear_clock d v n e m = cond_keeps (λ (x : Tables). x.clock ≡ t.clock) (clear_taken t d v n e) (λ a. refl) (λ a. refl)

module _ (s : Setup) (i : in_range s ≡ true) (n : Net) (f : Fleet) (r : Represents s n f) (shape : WorldShape s (listing n.world empty_queue)) (d : ℕ) (hd : d < s.clients) where
  abbrev w : World
  w = n.world

  abbrev t : Tables
  t = with_queue w.tables empty_queue

  abbrev c : ClientHalf
  c = f.clients d

  abbrev asking : Request
  asking = request_at w.requests d

  abbrev Arrives : Kind → Received → Fleet → Type 0
  Arrives k g f' = Represents s (after n (receiving s w d k g)) f'

  -- a receipt that changes no record writes the old ones back
  stay : (o : ℕ) (u : Tables) (f' : Fleet) → Represents s (after n (record { tables = u; copies = w.copies; requests = w.requests })) f'
      → Represents s (after n (record { tables = u; copies = set w.copies (d * s.objects + o) (copy_at s w.copies d o); requests = set w.requests d asking })) f'
  stay o u f' h = rw (set-get_or w.copies (d * s.objects + o) no_copy, set-get_or w.requests d no_request) h

  -- ---- the server receives
  by_server_law : (rule : Tables → Counted) → Blind reviewed (λ u. rule (with_views t u)) → (rule t).tables.clock ≡ t.clock
      → Represents s (after n (record { tables = (rule t).tables; copies = w.copies; requests = w.requests })) (by_server f (reply_in (rule (tables_for f.server))))
  by_server_law rule b k =
      let e = blind_reply rule w.tables b f.server r.server in
      server_moves s n f r (rule t).tables (reply_in (rule (tables_for f.server))) (ap (λ (g : ServerReply). g.half) e.0) (ap (λ (g : ServerReply). g.out) e.0) e.1 k

  -- ---- the client receives what it does not take
  ignored : (o : ℕ) → Represents s (after n (record { tables = t; copies = set w.copies (d * s.objects + o) (copy_at s w.copies d o); requests = set w.requests d asking })) (by_client f d (quietly c))
  ignored o =
      let m = r.clients d hd in
      stay o t (by_client f d (quietly c))
      (client_moves s n f r d (record { tables = t; copies = w.copies; requests = w.requests }) (quietly c) refl refl
      (record { clock = m.clock; epoch = m.epoch; expiry = m.expiry; copy = m.copy; request = m.request; shape = m.shape })
      (record { epoch = λ k u h ne. refl; expiry = λ k u h ne. refl; copy = λ k j h ne. refl; request = λ k ne. refl }))

  same_stands : (m : ℕ) → stands asking m ≡ stands c.request m
  same_stands m = ap (λ (q : Request). stands q m) (r.clients d hd).request

  grant_arrives : (o m x e v y : ℕ) (p : Option ℕ) → o < s.objects → (b : Bool)
      → Arrives (Grant o m x e v y p) (cond b (takes (grant_stored (copy_at s w.copies d o) v y p) (with_views t (viewed t.views d (volume_of s o) e x))) (takes kept t))
      (by_client f d (cond b (quietly (client_granted s c o x e (filled (copy_in c o) v y p))) (quietly c)))
  grant_arrives o m x e v y p ho true =
      rw (swept_keep s)
      (grant_moves s i n f r shape d hd o x e (filled (copy_at s w.copies d o) v y p) (filled (copy_in c o) v y p) ho (ap (λ (z : Copy). filled z v y p) ((r.clients d hd).copy o ho)))
  grant_arrives o m x e v y p ho false = rw (swept_keep s) (ignored o)

  offer_arrives : (v m e : ℕ) → v < s.volumes → (b : Bool)
      → Arrives (Offer v m e) (cond b (takes (record { copy = copy.Keep; request = request.End; sweep = sweep.Expire v }) (sent (with_views t (viewed t.views d v e 0)) (message d (Dropped v m e)))) (takes kept t))
      (by_client f d (cond b (record { half = client_offered s c v e; out = message d (Dropped v m e) ∷ [] }) (quietly c)))
  offer_arrives v m e hv true = rw (set-get_or w.copies (d * s.objects + 0) no_copy) (offer_moves s i n f r shape d hd v m e hv)
  offer_arrives v m e hv false = rw (swept_keep s) (ignored 0)

  batch_arrives : (v m e a : ℕ) (b : Bool)
      → Arrives (Batch v m e a) (cond b (takes (record { copy = copy.Keep; request = request.End; sweep = sweep.Forget a }) (sent t (message d (Cleared v m e a)))) (takes kept t))
      (by_client f d (cond b (record { half = client_forgets s c a; out = message d (Cleared v m e a) ∷ [] }) (quietly c)))
  batch_arrives v m e a true = rw (set-get_or w.copies (d * s.objects + 0) no_copy) (batch_moves s i n f r shape d hd v m e a)
  batch_arrives v m e a false = rw (swept_keep s) (ignored 0)

  pub arrives_at : (k : Kind) → KindOk s (listing w empty_queue) d k → Arrives k (received s t (copy_at s w.copies d (object_of k)) asking d k) (receives s f d k)
  unfolding received grant_received invalidate_received offer_received batch_received
  arrives_at (Renew o m e v) ok =
      rw (swept_keep s) (stay o (renewed s t d o m e v) _ (by_server_law (λ (u : Tables). uncounted (renewed s u d o m e v)) (then {put = with_views} uncounted (λ u v. refl) _ (renewed_blind s t d o m e v)) (renewed_clock s t d o m e v)))
  arrives_at (Grant o m x e v y p) ok = rw (same_stands m) (grant_arrives o m x e v y p ok.exists (stands c.request m))
  arrives_at (Invalidate o e v) ok = rw (swept_keep s) (invalidate_moves s i n f r shape d hd o e v ok.exists)
  arrives_at (Ack o e v) ok = rw (swept_keep s) (stay o (settled s (ack_staged s t d o e v)).tables _ (by_server_law (λ (u : Tables). settled s (ack_staged s u d o e v)) (ack_blind s t d o e v) (ack_clock s t d o e v)))
  arrives_at (Offer v m e) ok = rw (same_stands m) (offer_arrives v m e ok.exists (stands c.request m))
  arrives_at (Dropped v m e) ok = rw (swept_keep s) (stay 0 (settled s (drop_staged s t d v m e)).tables _ (by_server_law (λ (u : Tables). settled s (drop_staged s u d v m e)) (drop_blind s t d v m e) (drop_clock s t d v m e)))
  arrives_at (Batch v m e a) ok = rw (same_stands m) (batch_arrives v m e a (stands c.request m))
  arrives_at (Cleared v m e a) ok =
      rw (swept_keep s) (stay 0 (notes_cleared s t d v m e a) _ (by_server_law (λ (u : Tables). uncounted (notes_cleared s u d v m e a)) (then {put = with_views} uncounted (λ u v. refl) _ (clear_blind s t d v m e a)) (clear_clock s t d v m e a)))
