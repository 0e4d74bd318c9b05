-- Every step keeps all lengths.
-- h and k say that lengths are right; d, v and o are client, volume and object. In a rule, n, e, w and x are a message's number, epoch, version and expiry,
-- or x is a value; for a step, c and r are the copy and the request, w is the world and x the step.
use Rattle.std.specs.Prelude.{ℕ, ◌<◌, Bool, true, false, List, ◌≡◌, refl, ltb, length}
use Rattle.std.proofs.Common.{arith, ⊎_elim, ◌∙◌, length-set}
use Rattle.laws.specs.Choice.{cond_keeps, true_or_false}
use Rattle.laws.specs.Loop.{fold_keeps}
use Rattle.laws.specs.Store.{length_store}
use Rattle.protocol.specs.declared.message.Kind.{Kind}
use Rattle.protocol.specs.declared.message.Kind.TheVariants.{Renew, Grant, Invalidate, Ack, Offer, Dropped, Batch, Cleared}
use Rattle.protocol.specs.declared.records.Copy.{Copy}
use Rattle.protocol.specs.declared.records.Request.{Request}
use Rattle.protocol.specs.declared.setup.Setup.{Setup}
use Rattle.protocol.specs.declared.step.Decision.{Decision}
use Rattle.protocol.specs.declared.step.Step.{Step}
use Rattle.protocol.specs.declared.step.Sweep.{Sweep}
use Rattle.protocol.specs.declared.tables.Sessions.{Sessions}
use Rattle.protocol.specs.declared.tables.Views.{Views}
use Rattle.protocol.specs.declared.tables.Tables.{Tables}
use Rattle.protocol.specs.Setup.{volume_of}
use Rattle.protocol.specs.Tables.{waiting_at, with_sessions}
use Rattle.protocol.specs.Writes.{Counted, Staged, delays, put_off, delay_if, delayed, opened, awaited, begun, notify, notified, deserted, marked, mark_if_waiting, ages, age_at, aged_in, aged, clock_set, posted, released, completed, complete_if, settled, written}
use Rattle.protocol.specs.Server.{noted, offered, volume_renewed, object_renewed, granted, lowest_waited, must_drop, has_notes, batched, renewed_by, renewed, ack_taken, acked, ack_staged, drop_taken, disowned, dropped, drop_staged, clear_taken, notes_dropped, notes_cleared, server_restarted, stale, being_written}
use Rattle.protocol.specs.Client.{showable, stands, viewed, sweep_at, swept_all, client_restarted}
use Rattle.protocol.specs.Gate.{uses_place}
use Rattle.protocol.specs.Decide.{Received, performed, read_decided, ask_decided, deliver_decided, restart_decided, grant_received, invalidate_received, offer_received, batch_received, received}
use Rattle.protocol.specs.World.{World, stepped}
use Rattle.protocol.specs.Ledger.{accepts}
use Rattle.protocol.specs.Soundness.StepCases.{Accepted, copy_of, request_of}
use Rattle.protocol.proofs.Soundness.StepCases.{accepted, tables_after, refused_keeps, by_kind, place_exists, queue_fits, clock_performed, read_performed, ask_performed, write_performed, deliver_performed, lose_performed, double_performed, server_performed, client_performed}
use Rattle.protocol.specs.Soundness.Shape.{SessionsShape, ViewsShape, QueueShape, Shape, WorldShape}
use Rattle.protocol.proofs.Soundness.Shape.{epoch_shape, volume_expiry_shape, guard_shape, seen_shape, session_expiry_shape, unreachable_shape, offer_shape, notes_shape, batch_shape, value_shape, version_shape, object_expiry_shape, write_shape, lease_shape, waiting_shape, view_epoch_shape, view_expiry_shape, clock_shape, volumes_shape, sessions_shape, objects_shape, holders_shape, views_shape, queue_shape, pushed_shape, sent_shape, taken_shape, fresh_sessions_law, fresh_objects_law, fresh_holders_law}

-- ---- writes
pub put_off_shape : (x : Sessions) (d v o : ℕ) → SessionsShape x → SessionsShape (put_off x d v o)
put_off_shape x d v o h = batch_shape _ (simp length-set) (notes_shape _ (simp length-set) h)

pub delayed_shape : (s : Setup) (t : Tables) (o : ℕ) → SessionsShape t.sessions → SessionsShape (delayed s t o)
unfolding delayed
delayed_shape s t o h =
    fold_keeps SessionsShape (delay_if s t o) (λ x d k. cond_keeps SessionsShape (delays s (with_sessions t x) o d) (λ e. put_off_shape x d (volume_of s o) o k) (λ e. k)) t.sessions 0 s.clients h

pub begun_shape : (s : Setup) (t : Tables) (o x : ℕ) → Shape t → Shape (begun s t o x)
unfolding opened awaited
begun_shape s t o x h =
    holders_shape (waiting_shape _ (simp length-set) h.holders)
    (objects_shape (write_shape o true x _ h.objects) (sessions_shape (delayed_shape s t o h.sessions) h))

notified_shape : (s : Setup) (t : Tables) (o : ℕ) → QueueShape t.queue → QueueShape (notified s t o)
unfolding notified
notified_shape s t o h =
    fold_keeps QueueShape (notify s t o) (λ q d k. cond_keeps QueueShape (waiting_at t d o) (λ e. pushed_shape q _ k) (λ e. k)) t.queue 0 s.clients h

pub written_shape : (s : Setup) (t : Tables) (o x : ℕ) → Shape t → Shape (written s t o x)
unfolding written
written_shape s t o x h =
    let b = begun_shape s t o x h in
    queue_shape (notified_shape s (begun s t o x) o b.queue) b

pub marked_shape : (x : Sessions) (d v : ℕ) → SessionsShape x → SessionsShape (marked x d v)
marked_shape x d v h = batch_shape _ (simp length-set) (notes_shape _ (simp length-set) (unreachable_shape _ (simp length-set) h))

deserted_shape : (s : Setup) (t : Tables) (o : ℕ) → SessionsShape t.sessions → SessionsShape (deserted s t o)
unfolding deserted
deserted_shape s t o h =
    fold_keeps SessionsShape (mark_if_waiting s t o) (λ x d k. cond_keeps SessionsShape (waiting_at t d o) (λ e. marked_shape x d (volume_of s o) k) (λ e. k)) t.sessions 0 s.clients h

aged_shape : (s : Setup) (clock : ℕ) (x : Sessions) → SessionsShape x → SessionsShape (aged s clock x)
unfolding aged aged_in
aged_shape s clock x h =
    fold_keeps SessionsShape (aged_in s clock)
    (λ y d k. fold_keeps SessionsShape (age_at s clock d) (λ z v l. cond_keeps SessionsShape (ages s clock z d v) (λ e. marked_shape z d v l) (λ e. l)) y 0 s.volumes k) x 0 s.clients h

pub clock_set_shape : (s : Setup) (t : Tables) (clock : ℕ) → Shape t → Shape (clock_set s t clock)
unfolding clock_set
clock_set_shape s t clock h = sessions_shape (aged_shape s clock t.sessions h.sessions) (clock_shape t clock h)

pub completed_shape : (s : Setup) (t : Tables) (o : ℕ) → Shape t → Shape (completed s t o)
unfolding completed posted released
completed_shape s t o h =
    sessions_shape (deserted_shape s t o h.sessions)
    (holders_shape (waiting_shape _ (simp length-set) (lease_shape _ (simp length_store) h.holders))
    (objects_shape (version_shape _ (simp length-set) (value_shape _ (simp length-set) (write_shape o false 0 0 h.objects))) h))

settled_shape : (s : Setup) (g : Staged) → Shape g.tables → Shape (settled s g).tables
unfolding settled
settled_shape s g h =
    fold_keeps (λ (c : Counted). Shape c.tables) (complete_if g.test s)
    (λ c o k. cond_keeps (λ (c : Counted). Shape c.tables) (g.test c.tables o) (λ e. completed_shape s c.tables o k) (λ e. k))
    (record { count = 0; tables = g.tables }) g.from g.many h

-- ---- messages received by the server
pub noted_shape : (t : Tables) (d n : ℕ) → Shape t → Shape (noted t d n)
unfolding noted
noted_shape t d n h = sessions_shape (seen_shape _ (simp length-set) h.sessions) h

offered_shape : (t : Tables) (d v n : ℕ) → Shape t → Shape (offered t d v n)
unfolding offered
offered_shape t d v n h = sessions_shape (offer_shape _ (simp length-set) (marked_shape _ d v h.sessions)) h

batched_shape : (t : Tables) (d v n : ℕ) → Shape t → Shape (batched t d v n)
unfolding batched
batched_shape t d v n h = sessions_shape (batch_shape _ (simp length-set) h.sessions) h

volume_renewed_shape : (s : Setup) (t : Tables) (d v : ℕ) → Shape t → Shape (volume_renewed s t d v)
unfolding volume_renewed
volume_renewed_shape s t d v h =
    volumes_shape (volume_expiry_shape _ (simp length-set) h.volumes) (sessions_shape (session_expiry_shape _ (simp length-set) h.sessions) h)

object_renewed_shape : (s : Setup) (t : Tables) (d o : ℕ) → Shape t → Shape (object_renewed s t d o)
unfolding object_renewed
object_renewed_shape s t d o h =
    objects_shape (object_expiry_shape _ (simp length-set) h.objects) (holders_shape (lease_shape _ (simp length-set) h.holders) h)

renewed_shape : (s : Setup) (t : Tables) (d o n e w : ℕ) → Shape t → Shape (renewed s t d o n e w)
unfolding renewed renewed_by granted
renewed_shape s t d o n e w h =
    let v = volume_of s o in
    let t' = noted t d n in
    let k = noted_shape t d n h in
    cond_keeps Shape (stale t d n) (λ _. h) (λ _.
    cond_keeps Shape (must_drop t' d v e) (λ _. sent_shape _ _ (offered_shape t' d v n k)) (λ _.
    cond_keeps Shape (has_notes t' d v) (λ _. sent_shape _ _ (batched_shape t' d v n k)) (λ _.
    cond_keeps Shape (ltb (lowest_waited s t' d v) s.objects) (λ _. sent_shape _ _ k) (λ _.
    cond_keeps Shape (being_written t' o) (λ _. k) (λ _. sent_shape _ _ (object_renewed_shape s _ d o (volume_renewed_shape s t' d v k)))))))

pub acked_shape : (t : Tables) (d o : ℕ) → Shape t → Shape (acked t d o)
unfolding acked
acked_shape t d o h = holders_shape (waiting_shape _ (simp length-set) (lease_shape _ (simp length-set) h.holders)) h

pub ack_shape : (s : Setup) (t : Tables) (d o e w : ℕ) → Shape t → Shape (ack_staged s t d o e w).tables
unfolding ack_staged
ack_shape s t d o e w h =
    cond_keeps (λ (g : Staged). Shape g.tables) (ack_taken s t o e w) (λ _. acked_shape t d o h) (λ _. h)

pub dropped_shape : (s : Setup) (t : Tables) (d v : ℕ) → Shape t → Shape (dropped s t d v)
unfolding dropped disowned
dropped_shape s t d v h =
    holders_shape (waiting_shape _ (simp length_store) (lease_shape _ (simp length_store) h.holders))
    (sessions_shape
    (offer_shape _ (simp length-set) (unreachable_shape _ (simp length-set) (session_expiry_shape _ (simp length-set) h.sessions))) h)

pub drop_shape : (s : Setup) (t : Tables) (d v n e : ℕ) → Shape t → Shape (drop_staged s t d v n e).tables
unfolding drop_staged
drop_shape s t d v n e h =
    cond_keeps (λ (g : Staged). Shape g.tables) (drop_taken t d v n e) (λ _. dropped_shape s t d v h) (λ _. h)

cleared_shape : (s : Setup) (t : Tables) (d v n e m : ℕ) → Shape t → Shape (notes_cleared s t d v n e m)
unfolding notes_cleared notes_dropped
cleared_shape s t d v n e m h =
    cond_keeps Shape (clear_taken t d v n e)
    (λ _. holders_shape (lease_shape _ (simp length_store) h.holders) (sessions_shape (batch_shape _ (simp length-set) (notes_shape _ (simp length-set) h.sessions)) h)) (λ _. h)

server_shape : (s : Setup) (t : Tables) → Shape t → Shape (server_restarted s t)
unfolding server_restarted
server_shape s t h =
    holders_shape fresh_holders_law
    (objects_shape (version_shape _ h.objects.version (value_shape _ h.objects.value fresh_objects_law))
    (sessions_shape fresh_sessions_law
    (volumes_shape (guard_shape _ (cc) (epoch_shape _ (simp length_store) h.volumes)) h)))

-- ---- messages received by a client, and its restart
viewed_shape : (u : Views) (d v e x : ℕ) → ViewsShape u → ViewsShape (viewed u d v e x)
viewed_shape u d v e x h = view_expiry_shape _ (simp length-set) (view_epoch_shape _ (simp length-set) h)

received_shape : (s : Setup) (t : Tables) (c : Copy) (r : Request) (d : ℕ) (kind : Kind) → Shape t → Shape (received s t c r d kind).counted.tables
unfolding received grant_received invalidate_received offer_received batch_received
received_shape s t c r d (Renew o n e w) h = renewed_shape s t d o n e w h
received_shape s t c r d (Grant o n x e w y p) h =
    cond_keeps (λ (g : Received). Shape g.counted.tables) (stands r n)
    (λ _. views_shape (viewed_shape t.views d (volume_of s o) e x h.views) h) (λ _. h)
received_shape s t c r d (Invalidate o e w) h = sent_shape t _ h
received_shape s t c r d (Ack o e w) h = settled_shape s _ (ack_shape s t d o e w h)
received_shape s t c r d (Offer v n e) h =
    cond_keeps (λ (g : Received). Shape g.counted.tables) (stands r n)
    (λ _. sent_shape _ _ (views_shape (viewed_shape t.views d v e 0 h.views) h)) (λ _. h)
received_shape s t c r d (Dropped v n e) h = settled_shape s _ (drop_shape s t d v n e h)
received_shape s t c r d (Batch v n e m) h = cond_keeps (λ (g : Received). Shape g.counted.tables) (stands r n) (λ _. sent_shape t _ h) (λ _. h)
received_shape s t c r d (Cleared v n e m) h = cleared_shape s t d v n e m h

client_shape : (s : Setup) (u : Views) (d : ℕ) → ViewsShape u → ViewsShape (client_restarted s u d)
unfolding client_restarted
client_shape s u d h = view_expiry_shape _ (simp length_store) (view_epoch_shape _ (simp length_store) h)

-- ---- a step
read_shape : (s : Setup) (t : Tables) (c : Copy) (d o : ℕ) → Shape t → Shape (read_decided s t c d o).outcome.tables
unfolding read_decided
read_shape s t c d o h = cond_keeps (λ (g : Decision). Shape g.outcome.tables) (showable s t c d o) (λ _. h) (λ _. h)

ask_shape : (s : Setup) (t : Tables) (c : Copy) (r : Request) (d o : ℕ) → Shape t → Shape (ask_decided s t c r d o).outcome.tables
unfolding ask_decided
ask_shape s t c r d o h = sent_shape t _ h

deliver_shape : (s : Setup) (t : Tables) (c : Copy) (r : Request) (i : ℕ) → i < 64 → Shape t → Shape (deliver_decided s t c r i).outcome.tables
unfolding deliver_decided
deliver_shape s t c r i k h = received_shape s _ c r _ _ (taken_shape t i k h)

restart_shape : (s : Setup) (t : Tables) (d : ℕ) → Shape t → Shape (restart_decided s t d).outcome.tables
unfolding restart_decided
restart_shape s t d h = views_shape (client_shape s t.views d h.views) h

performed_shape : (s : Setup) (t : Tables) (b : Bool) (c : Copy) (r : Request) (x : Step) → Accepted s t b r x → Shape t → Shape (performed s t c r x).outcome.tables
performed_shape s t b c r x a h =
    by_kind (Shape (performed s t c r x).outcome.tables) x a.passes.knows
    (λ e. rw (clock_performed s t c r x e) (settled_shape s _ (clock_set_shape s t x.clock h)))
    (λ e. rw (read_performed s t c r x e) (read_shape s t c x.client x.object h))
    (λ e. rw (ask_performed s t c r x e) (ask_shape s t c r x.client x.object h))
    (λ e. rw (write_performed s t c r x e) (settled_shape s _ (written_shape s t x.object x.value h)))
    (λ e. rw (deliver_performed s t c r x e) (deliver_shape s t c r x.place (in_list (rw e)) h))
    (λ e. rw (lose_performed s t c r x e) (taken_shape t x.place (in_list (rw e)) h))
    (λ e. rw (double_performed s t c r x e) (sent_shape t _ h))
    (λ e. rw (server_performed s t c r x e) (server_shape s t h))
    (λ e. rw (client_performed s t c r x e) (restart_shape s t x.client h))
  where
    in_list : uses_place x ≡ true → x.place < 64
    in_list e = omega (arith, place_exists a.passes e, queue_fits a)

swept_length : (s : Setup) (g : Sweep) (first : ℕ) (l : List Copy) → length (swept_all s g first l) ≡ length l
unfolding swept_all
swept_length s g first l =
    fold_keeps (λ (m : List Copy). length m ≡ length l) (sweep_at s g first) (λ m k h. simp length-set h) l first _ refl

accepted_shape : (s : Setup) (w : World) (x : Step) → WorldShape s w → accepts s w x ≡ true → WorldShape s (stepped s w x)
unfolding stepped
accepted_shape s w x h e = record {
  tables = rw (tables_after s w x e) (performed_shape s w.tables _ (copy_of s w x) (request_of s w x) x (accepted s w x e) h.tables);
  copies = swept_length s _ _ _ ∙ length-set w.copies _ _ ∙ h.copies;
  requests = length-set w.requests _ _ ∙ h.requests;
}

-- every step keeps all lengths
pub stepped_shape : (s : Setup) (w : World) (x : Step) → WorldShape s w → WorldShape s (stepped s w x)
stepped_shape s w x h =
    ⊎_elim (accepted_shape s w x h) (λ e. rw (refused_keeps s w x e) h) (true_or_false (accepts s w x))
