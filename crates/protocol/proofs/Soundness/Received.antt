-- The bounds of question 1 are kept by every message received and by the restarts.
-- h says that tables, or a part of them, are within the bounds; d, v and o are client, volume and object, p and q say that these exist; n, e, w, x, y and a
-- are a message's number, epoch, version, volume expiry, object expiry and payload; c and r are the copy and the request.
use Rattle.std.specs.Prelude.{ℕ, ◌+◌, ◌<◌, true, false, ◌&&◌, ◌≡◌, refl, ltb, Option}
use Rattle.std.proofs.Common.{arith, ltb-true, leb-true, lt-ltb, le-leb}
use Rattle.laws.specs.Choice.{cond_keeps, and-true, both_true, not_both}
use Rattle.laws.specs.Sets.{within_less}
use Rattle.laws.specs.Each.{each_set, each_store, replicate_at}
use Rattle.protocol.specs.declared.message.Kind.{Kind}
use Rattle.protocol.specs.declared.message.Kind.TheVariants.{Renew, Grant, Invalidate, Ack, Offer, Dropped, Batch, Cleared}
use Rattle.protocol.specs.declared.records.Copy.{Copy}
use Rattle.protocol.specs.declared.records.Request.{Request}
use Rattle.protocol.specs.declared.setup.Setup.{Setup}
use Rattle.protocol.specs.declared.step.Turn.{Turn}
use Rattle.protocol.specs.declared.tables.Views.{Views}
use Rattle.protocol.specs.declared.tables.Tables.{Tables}
use Rattle.protocol.specs.Setup.{volume_of}
use Rattle.protocol.specs.Ranges.{Ranges}
use Rattle.protocol.specs.Tables.{by_volume, by_object}
use Rattle.protocol.specs.Writes.{Staged}
use Rattle.protocol.specs.Server.{noted, offered, volume_renewed, object_renewed, granting, granted, lowest_waited, must_drop, has_notes, batched, batching, renewed_by, renewed, ack_taken, acked, ack_staged, drop_taken, disowned, dropped, drop_staged, clear_taken, notes_dropped, notes_cleared, server_restarted, stale, being_written}
use Rattle.protocol.specs.Client.{viewed, ended, turned, stands, forgotten, client_restarted, asks_for}
use Rattle.protocol.specs.Sound.{time_fits, kind_sound}
use Rattle.protocol.specs.Decide.{kept, grant_received, invalidate_received, offer_received, batch_received, received}
use Rattle.protocol.specs.Soundness.Bounds.{Timed, Started, Named, ViewsBounded, Bounded, RequestBounded}
use Rattle.protocol.proofs.Soundness.Bounds.{epoch_bounded, volume_expiry_bounded, guard_bounded, seen_bounded, session_expiry_bounded, unreachable_bounded, offer_bounded, notes_bounded, batch_bounded, set_fits, value_bounded, version_bounded, object_expiry_bounded, lease_bounded, waiting_bounded, view_epoch_bounded, view_expiry_bounded, volumes_bounded, sessions_bounded, objects_bounded, holders_bounded, views_bounded, sent_bounded, fresh_sessions_law, fresh_objects_law, fresh_holders_law}
use Rattle.protocol.proofs.Soundness.Written.{invalidation_named, marked_bounded, settled_bounded}
use Rattle.protocol.specs.Soundness.Received.{Leaves, Receipt}

module _ (s : Setup) (rs : Ranges s) where
  -- ---- RENEW
  noted_bounded : (t : Tables) (d n : ℕ) → Bounded s t → Bounded s (noted t d n)
  unfolding noted
  noted_bounded t d n h = sessions_bounded (seen_bounded _ h.sessions) h

  offered_bounded : (t : Tables) (d v n : ℕ) → Bounded s t → Bounded s (offered t d v n)
  unfolding offered
  offered_bounded t d v n h = sessions_bounded (offer_bounded _ (marked_bounded s _ d v h.sessions)) h

  batched_bounded : (t : Tables) (d v n : ℕ) → Bounded s t → Bounded s (batched t d v n)
  unfolding batched
  batched_bounded t d v n h = sessions_bounded (batch_bounded _ h.sessions) h

  -- a BATCH has the notes, which are sound
  batching_named : (t : Tables) (d v n : ℕ) → d < s.clients → v < s.volumes → Bounded s t → Named s (batching t d v n)
  batching_named t d v n p q h =
      both_true (lt-ltb d s.clients p) (both_true (lt-ltb v s.volumes q) (h.sessions.notes d v (omega (arith, rs.volumes.1))))

  volume_renewed_bounded : (t : Tables) (d v : ℕ) → Bounded s t → Bounded s (volume_renewed s t d v)
  unfolding volume_renewed
  volume_renewed_bounded t d v h =
      let later : Timed (t.clock + s.tv) = omega (arith, h.clock, rs.tv.1) in
      volumes_bounded (volume_expiry_bounded _ (each_set Timed t.volumes.expiry v _ h.volumes.expiry later) h.volumes)
      (sessions_bounded (session_expiry_bounded _ (each_set Timed t.sessions.expiry (by_volume d v) _ h.sessions.expiry later) h.sessions) h)

  object_renewed_bounded : (t : Tables) (d o : ℕ) → Bounded s t → Bounded s (object_renewed s t d o)
  unfolding object_renewed
  object_renewed_bounded t d o h =
      let later : Timed (t.clock + s.t) = omega (arith, h.clock, rs.t.1) in
      objects_bounded (object_expiry_bounded _ (each_set Timed t.objects.expiry o _ h.objects.expiry later) h.objects)
      (holders_bounded (lease_bounded _ (each_set Timed t.holders.lease (by_object d o) _ h.holders.lease later) h.holders) h)

  granting_named : (t : Tables) (d o n w : ℕ) → d < s.clients → o < s.objects → Bounded s t → Named s (granting s t d o n w)
  granting_named t d o n w p q h =
      both_true (lt-ltb d s.clients p)
      (both_true (both_true (lt-ltb o s.objects q) (le-leb (t.clock + s.tv) 2148483647 (omega (arith, h.clock, rs.tv.1)))) (le-leb (t.clock + s.t) 2148483647 (omega (arith, h.clock, rs.t.1))))

  granted_bounded : (t : Tables) (d o n w : ℕ) → d < s.clients → o < s.objects → Bounded s t → Bounded s (granted s t d o n w)
  unfolding granted
  granted_bounded t d o n w p q h =
      sent_bounded _ _ (granting_named t d o n w p q h) (object_renewed_bounded _ d o (volume_renewed_bounded t d (volume_of s o) h))

  renewed_bounded : (t : Tables) (d o n e w : ℕ) → d < s.clients → o < s.objects → Bounded s t → Bounded s (renewed s t d o n e w)
  unfolding renewed renewed_by
  renewed_bounded t d o n e w p q h =
      let v = volume_of s o in
      let t' = noted t d n in
      let k = noted_bounded t d n h in
      cond_keeps (Bounded s) (stale t d n) (λ _. h) (λ _.
      cond_keeps (Bounded s) (must_drop t' d v e)
      (λ _. sent_bounded _ _ (both_true (lt-ltb d s.clients p) (lt-ltb v s.volumes (rs.within o q))) (offered_bounded t' d v n k)) (λ _.
      cond_keeps (Bounded s) (has_notes t' d v) (λ _. sent_bounded _ _ (batching_named t' d v n p (rs.within o q) k) (batched_bounded t' d v n k)) (λ _.
      cond_keeps (Bounded s) (ltb (lowest_waited s t' d v) s.objects)
      (λ b. sent_bounded _ _ (invalidation_named s t' (lowest_waited s t' d v) d (ltb-true _ _ b) p) k) (λ _.
      cond_keeps (Bounded s) (being_written t' o) (λ _. k) (λ _. granted_bounded t' d o n w p q k)))))

-- ---- ACK and DROPPED
acked_bounded : {s : Setup} (t : Tables) (d o : ℕ) → Bounded s t → Bounded s (acked t d o)
unfolding acked
acked_bounded t d o h =
    holders_bounded (waiting_bounded _ (lease_bounded _ (each_set Timed t.holders.lease (by_object d o) 0 h.holders.lease (omega arith)) h.holders)) h

ack_bounded : (s : Setup) (t : Tables) (d o e w : ℕ) → Bounded s t → Bounded s (ack_staged s t d o e w).tables
unfolding ack_staged
ack_bounded s t d o e w h = cond_keeps (λ (g : Staged). Bounded s g.tables) (ack_taken s t o e w) (λ _. acked_bounded t d o h) (λ _. h)

dropped_bounded : (s : Setup) (t : Tables) (d v : ℕ) → Bounded s t → Bounded s (dropped s t d v)
unfolding dropped disowned
dropped_bounded s t d v h =
    holders_bounded
    (waiting_bounded _ (lease_bounded _ (each_store Timed _ _ _ t.holders.lease s.objects h.holders.lease (λ o b. omega arith)) h.holders))
    (sessions_bounded
    (offer_bounded _
    (unreachable_bounded _ (session_expiry_bounded _ (each_set Timed t.sessions.expiry (by_volume d v) 0 h.sessions.expiry (omega arith)) h.sessions))) h)

drop_bounded : (s : Setup) (t : Tables) (d v n e : ℕ) → Bounded s t → Bounded s (drop_staged s t d v n e).tables
unfolding drop_staged
drop_bounded s t d v n e h = cond_keeps (λ (g : Staged). Bounded s g.tables) (drop_taken t d v n e) (λ _. dropped_bounded s t d v h) (λ _. h)

-- ---- CLEARED
cleared_bounded : (s : Setup) (t : Tables) (d v n e m : ℕ) → Bounded s t → Bounded s (notes_cleared s t d v n e m)
unfolding notes_cleared notes_dropped
cleared_bounded s t d v n e m h =
    cond_keeps (Bounded s) (clear_taken t d v n e)
    (λ _. holders_bounded (lease_bounded _ (each_store Timed _ _ _ t.holders.lease s.objects h.holders.lease (λ o b. omega arith)) h.holders)
    (sessions_bounded
    (batch_bounded _ (notes_bounded _ (set_fits s t.sessions.notes (by_volume d v) _ h.sessions.notes (λ k u p q. within_less _ m _ (rw (← q) (h.sessions.notes k u p)))) h.sessions)) h))
    (λ _. h)

-- ---- the restarts
pub server_bounded : (s : Setup) (t : Tables) → Bounded s t → Bounded s (server_restarted s t)
unfolding server_restarted
server_bounded s t h =
    holders_bounded fresh_holders_law
    (objects_bounded (version_bounded _ h.objects.version (λ o e. not_both e (replicate_at 32 o false)) (value_bounded _ fresh_objects_law))
    (sessions_bounded (fresh_sessions_law s)
    (volumes_bounded
    (guard_bounded _ (search h)
    (epoch_bounded _ (each_store Started _ _ _ t.volumes.epoch _ h.volumes.epoch (λ v b. omega arith)) h.volumes)) h)))

pub client_bounded : (s : Setup) (u : Views) (d : ℕ) → ViewsBounded u → ViewsBounded (client_restarted s u d)
unfolding client_restarted
client_bounded s u d h = view_expiry_bounded _ (each_store Timed _ _ _ u.expiry s.volumes h.expiry (λ v b. omega arith)) (view_epoch_bounded _ h)

-- ---- a client's receipts
viewed_bounded : (u : Views) (d v e x : ℕ) → Timed x → ViewsBounded u → ViewsBounded (viewed u d v e x)
viewed_bounded u d v e x k h = view_expiry_bounded _ (each_set Timed u.expiry (by_volume d v) x h.expiry k) (view_epoch_bounded _ h)

pub ended_bounded : {s : Setup} (r : Request) → RequestBounded s r → RequestBounded s (ended r)
ended_bounded r h = record { next = h.next; object = λ e. not_both e refl }

forgotten_bounded : {s : Setup} (r : Request) (o : ℕ) → RequestBounded s r → RequestBounded s (turned r (forgotten r o))
unfolding forgotten
forgotten_bounded {s} r o h = cond_keeps (λ (u : Turn). RequestBounded s (turned r u)) (asks_for r o) (λ _. ended_bounded r h) (λ _. h)

-- copy and request stay
pub unchanged : {s : Setup} {c : Copy} {r : Request} {t : Tables} → Bounded s t → Leaves s c r t kept
unchanged h = record { tables = h; copy = λ b. b; request = λ b. b }

module _ (s : Setup) (rs : Ranges s) (t : Tables) (c : Copy) (r : Request) (d : ℕ) (p : d < s.clients) (h : Bounded s t) where
  grant_received_law : (o n x e w y : ℕ) (a : Option ℕ) → Timed x → Timed y → Receipt s c r (grant_received s t c r d o n x e w y a)
  unfolding grant_received
  grant_received_law o n x e w y a j k =
      cond_keeps (Receipt s c r) (stands r n)
      (λ _. record {
        tables = views_bounded (viewed_bounded t.views d (volume_of s o) e x j h.views) h;
        copy = λ _. k;
        request = ended_bounded r;
      })
      (λ _. unchanged h)

  invalidate_received_law : (o e w : ℕ) → o < s.objects → Receipt s c r (invalidate_received t r d o e w)
  unfolding invalidate_received
  invalidate_received_law o e w q = record {
    tables = sent_bounded t _ (both_true (lt-ltb d s.clients p) (lt-ltb o s.objects q)) h;
    copy = λ _. omega arith;
    request = forgotten_bounded r o;
  }

  offer_received_law : (v n e : ℕ) → v < s.volumes → Receipt s c r (offer_received t r d v n e)
  unfolding offer_received
  offer_received_law v n e q =
      cond_keeps (Receipt s c r) (stands r n)
      (λ _. record {
        tables =
            sent_bounded _ _ (both_true (lt-ltb d s.clients p) (lt-ltb v s.volumes q))
            (views_bounded (viewed_bounded t.views d v e 0 (omega arith) h.views) h);
        copy = λ b. b;
        request = ended_bounded r;
      })
      (λ _. unchanged h)

  batch_received_law : (v n e m : ℕ) → kind_sound s (Cleared v n e m) ≡ true → Receipt s c r (batch_received t r d v n e m)
  unfolding batch_received
  batch_received_law v n e m q =
      cond_keeps (Receipt s c r) (stands r n)
      (λ _. record { tables = sent_bounded _ _ (both_true (lt-ltb d s.clients p) q) h; copy = λ b. b; request = ended_bounded r }) (λ _. unchanged h)

  pub received_bounded : (kind : Kind) → kind_sound s kind ≡ true → Receipt s c r (received s t c r d kind)
  unfolding received
  received_bounded (Renew o n e w) q = unchanged (renewed_bounded s rs t d o n e w p (ltb-true _ _ q) h)
  received_bounded (Grant o n x e w y a) q =
      let f = and-true (ltb o s.objects && time_fits x) (time_fits y) q in
      let g = and-true (ltb o s.objects) (time_fits x) f.0 in
      grant_received_law o n x e w y a (leb-true _ _ g.1) (leb-true _ _ f.1)
  received_bounded (Invalidate o e w) q = invalidate_received_law o e w (ltb-true _ _ q)
  received_bounded (Ack o e w) q = unchanged (settled_bounded s _ (ack_bounded s t d o e w h))
  received_bounded (Offer v n e) q = offer_received_law v n e (ltb-true _ _ q)
  received_bounded (Dropped v n e) q = unchanged (settled_bounded s _ (drop_bounded s t d v n e h))
  received_bounded (Batch v n e m) q = batch_received_law v n e m q
  received_bounded (Cleared v n e m) q = unchanged (cleared_bounded s t d v n e m h)
