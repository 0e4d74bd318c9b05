-- Step 5, accepted: the message is removed, and received by its client or by the server.
use Rattle.std.specs.Prelude.{ℕ, ◌+◌, ◌*◌, ◌<◌, ◌≤◌, true, ◌≡◌, ltb, set, Option}
use Rattle.std.proofs.Common.{arith}
use Rattle.std.proofs.Math.Path.{refl}
use Rattle.std.proofs.lemmas.List.{set-get_or}
use Rattle.laws.specs.Choice.{cond_keeps, and-true}
use Rattle.protocol.specs.declared.message.Message.{Message}
use Rattle.protocol.specs.declared.message.Kind.{Kind}
use Rattle.protocol.specs.declared.message.Kind.TheVariants.{Renew, Grant, Invalidate, Ack, Offer, Dropped, Batch, Cleared}
use Rattle.protocol.specs.declared.records.Request.{Request}
use Rattle.protocol.specs.declared.setup.Setup.{Setup}
use Rattle.protocol.specs.declared.tables.Tables.{Tables}
use Rattle.protocol.specs.Messages.{object_of, removed}
use Rattle.protocol.specs.Tables.{no_copy, no_request}
use Rattle.protocol.specs.Writes.{Staged}
use Rattle.protocol.specs.Server.{ack_taken, ack_staged, drop_taken, drop_staged, clear_taken, notes_cleared}
use Rattle.protocol.specs.Client.{stands}
use Rattle.protocol.specs.Sound.{set_sound, kind_sound}
use Rattle.protocol.specs.Decide.{Received, taken, grant_received, invalidate_received, offer_received, batch_received, received}
use Rattle.protocol.specs.World.{World}
use Rattle.protocol.specs.Soundness.Shape.{WorldShape}
use Rattle.protocol.proofs.Soundness.Shape.{taken_shape}
use Rattle.protocol.specs.Safety.View.{copy_at, request_at}
use Rattle.protocol.specs.Safety.Invariant.{Inv, Sent, from}
use Rattle.protocol.proofs.Safety.Tools.{stands_true, sent_removed}
use Rattle.protocol.specs.Safety.Replaced.{with_tables}
use Rattle.protocol.specs.Safety.Settling.{Admits}
use Rattle.protocol.proofs.Safety.Settling.{ready_admits, ready_in_admits, none_admits, settled_keeps}
use Rattle.protocol.specs.Safety.Sending.{listing}
use Rattle.protocol.proofs.Safety.Sending.{lost}
use Rattle.protocol.proofs.Safety.Sweeping.{swept_keep}
use Rattle.protocol.proofs.Safety.Granting.{grant_taken}
use Rattle.protocol.proofs.Safety.Invalidating.{invalidate_taken}
use Rattle.protocol.proofs.Safety.Offering.{offer_taken}
use Rattle.protocol.proofs.Safety.Renewing.{renewed_keeps}
use Rattle.protocol.proofs.Safety.Acknowledging.{ack_taken_law, acked_keeps}
use Rattle.protocol.proofs.Safety.Dropping.{drop_taken_law, dropped_keeps}
use Rattle.protocol.proofs.Safety.Batching.{batch_taken}
use Rattle.protocol.proofs.Safety.Clearing.{clear_taken_law, cleared_keeps}
use Rattle.protocol.specs.Ranges.{Ranges}
use Rattle.protocol.proofs.Soundness.ShapeKept.{ack_shape, drop_shape}
use Rattle.protocol.specs.Safety.Delivering.{receiving}

module _ (s : Setup) (range : Ranges s) (w : World) (inv : Inv s w) (shape : WorldShape s w) (few : w.tables.queue.len ≤ 64) (i : ℕ) (hi : i < w.tables.queue.len) where
  abbrev t : Tables
  t = taken w.tables i

  abbrev rest : World
  rest = listing w (removed w.tables.queue i)

  remaining : Inv s rest
  remaining = lost s w inv i shape.tables.queue.items few hi

  shape_rest : WorldShape s rest
  shape_rest = record { tables = taken_shape w.tables i (omega arith) shape.tables; copies = shape.copies; requests = shape.requests }

  was : (m : Message) → Sent (removed w.tables.queue i) m → Sent w.tables.queue m
  was m z = sent_removed w.tables.queue i m shape.tables.queue.items few hi z

  module _ (d : ℕ) (hd : d < s.clients) where
    abbrev request : Request
    request = request_at w.requests d

    -- the records stay
    same_records : (o : ℕ) (u : Tables) → Inv s (with_tables w u)
        → Inv s (record { tables = u; copies = set w.copies (d * s.objects + o) (copy_at s w.copies d o); requests = set w.requests d request })
    same_records o u h = rw (set-get_or w.copies (d * s.objects + o) no_copy, set-get_or w.requests d no_request) h

    by_renew : (o n e ver : ℕ) → Sent w.tables.queue (from d (Renew o n e ver)) → Inv s (receiving s w d (Renew o n e ver) (received s t (copy_at s w.copies d o) request d (Renew o n e ver)))
    unfolding received
    by_renew o n e ver z =
        rw (swept_keep s) (same_records o _ (renewed_keeps s range rest remaining shape_rest.tables d o n e ver hd (inv.messages _ z).kind))

    by_grant : (o n x e ver y : ℕ) (p : Option ℕ) → Sent w.tables.queue (from d (Grant o n x e ver y p))
        → Inv s (receiving s w d (Grant o n x e ver y p) (received s t (copy_at s w.copies d o) request d (Grant o n x e ver y p)))
    unfolding received grant_received
    by_grant o n x e ver y p z =
        cond_keeps (λ (g : Received). Inv s (receiving s w d (Grant o n x e ver y p) g)) (stands request n)
        (λ a. let b = stands_true w.requests d n a in
        rw (swept_keep s)
        (grant_taken s range rest remaining shape_rest d o n x e ver y p hd (inv.messages _ z).kind b (λ f u h q. (inv.pairs _ _ (was _ h) z).acked o refl (refl, q) (refl, b))))
        (λ a. rw (swept_keep s) (same_records o _ remaining))

    by_invalidate : (o e ver : ℕ) → Sent w.tables.queue (from d (Invalidate o e ver))
        → Inv s (receiving s w d (Invalidate o e ver) (received s t (copy_at s w.copies d o) request d (Invalidate o e ver)))
    unfolding received invalidate_received
    by_invalidate o e ver z = rw (swept_keep s) (invalidate_taken s rest remaining shape_rest d o e ver hd (inv.messages _ z).kind)

    -- what an ACK or a DROPPED stages, then the writes that complete
    acks : (o e ver : ℕ) → Sent w.tables.queue (from d (Ack o e ver)) → Inv s (with_tables rest (ack_staged s t d o e ver).tables)
    unfolding ack_staged
    acks o e ver z =
        cond_keeps (λ (g : Staged). Inv s (with_tables rest g.tables)) (ack_taken s t o e ver)
        (λ a. let b = ack_taken_law s t o e ver a in
        acked_keeps s range rest remaining shape_rest.tables d o hd (inv.messages _ z).kind.invalidate.exists ((inv.messages _ z).kind.erased b)
        (λ g h r. (inv.pairs _ _ z (was _ h)).acked o refl (refl, b) r))
        (λ a. remaining)

    ack_fits : (o e ver : ℕ) → o < s.objects → (Admits s (ack_staged s t d o e ver).test) × ((ack_staged s t d o e ver).from + (ack_staged s t d o e ver).many ≤ s.objects)
    unfolding ack_staged
    ack_fits o e ver h =
        cond_keeps (λ (g : Staged). (Admits s g.test) × (g.from + g.many ≤ s.objects)) (ack_taken s t o e ver) (λ a. (ready_admits s, omega arith)) (λ a. (none_admits s, omega arith))

    by_ack : (o e ver : ℕ) → Sent w.tables.queue (from d (Ack o e ver)) → Inv s (receiving s w d (Ack o e ver) (received s t (copy_at s w.copies d o) request d (Ack o e ver)))
    unfolding received
    by_ack o e ver z =
        let f = ack_fits o e ver (inv.messages _ z).kind.invalidate.exists in
        rw (swept_keep s)
        (same_records o _ (settled_keeps s rest (ack_staged s t d o e ver) range f.0 f.1 (ack_shape s t d o e ver shape_rest.tables) (acks o e ver z)))

    drops : (v n e : ℕ) → Sent w.tables.queue (from d (Dropped v n e)) → Inv s (with_tables rest (drop_staged s t d v n e).tables)
    unfolding drop_staged
    drops v n e z =
        cond_keeps (λ (g : Staged). Inv s (with_tables rest g.tables)) (drop_taken t d v n e)
        (λ a. dropped_keeps s range rest remaining shape_rest.tables d v n e hd (inv.messages _ z).kind (drop_taken_law t d v n e a)) (λ a. remaining)

    drop_fits : (v n e : ℕ) → (Admits s (drop_staged s t d v n e).test) × ((drop_staged s t d v n e).from + (drop_staged s t d v n e).many ≤ s.objects)
    unfolding drop_staged
    drop_fits v n e =
        cond_keeps (λ (g : Staged). (Admits s g.test) × (g.from + g.many ≤ s.objects)) (drop_taken t d v n e) (λ a. (ready_in_admits s v, omega arith)) (λ a. (none_admits s, omega arith))

    by_dropped : (v n e : ℕ) → Sent w.tables.queue (from d (Dropped v n e))
        → Inv s (receiving s w d (Dropped v n e) (received s t (copy_at s w.copies d 0) request d (Dropped v n e)))
    unfolding received
    by_dropped v n e z =
        let f = drop_fits v n e in
        rw (swept_keep s)
        (same_records 0 _ (settled_keeps s rest (drop_staged s t d v n e) range f.0 f.1 (drop_shape s t d v n e shape_rest.tables) (drops v n e z)))

    by_offer : (v n e : ℕ) → Sent w.tables.queue (from d (Offer v n e))
        → Inv s (receiving s w d (Offer v n e) (received s t (copy_at s w.copies d 0) request d (Offer v n e)))
    unfolding received offer_received
    by_offer v n e z =
        cond_keeps (λ (g : Received). Inv s (receiving s w d (Offer v n e) g)) (stands request n)
        (λ a. rw (set-get_or w.copies (d * s.objects + 0) no_copy) (offer_taken s range rest remaining shape_rest d v n e hd (inv.messages _ z).kind))
        (λ a. rw (swept_keep s) (same_records 0 _ remaining))

    by_batch : (v n e m : ℕ) → Sent w.tables.queue (from d (Batch v n e m))
        → Inv s (receiving s w d (Batch v n e m) (received s t (copy_at s w.copies d 0) request d (Batch v n e m)))
    unfolding received batch_received
    by_batch v n e m z =
        cond_keeps (λ (g : Received). Inv s (receiving s w d (Batch v n e m) g)) (stands request n)
        (λ a. rw (set-get_or w.copies (d * s.objects + 0) no_copy) (batch_taken s rest remaining shape_rest d v n e m hd (inv.messages _ z).kind))
        (λ a. rw (swept_keep s) (same_records 0 _ remaining))

    clears : (v n e m : ℕ) → set_sound s v m ≡ true → Sent w.tables.queue (from d (Cleared v n e m)) → Inv s (with_tables rest (notes_cleared s t d v n e m))
    unfolding notes_cleared
    clears v n e m f z =
        cond_keeps (λ (u : Tables). Inv s (with_tables rest u)) (clear_taken t d v n e)
        (λ a. cleared_keeps s range rest remaining shape_rest.tables d v n e m hd f (inv.messages _ z).kind (clear_taken_law t d v n e a)) (λ a. remaining)

    by_cleared : (v n e m : ℕ) → set_sound s v m ≡ true → Sent w.tables.queue (from d (Cleared v n e m))
        → Inv s (receiving s w d (Cleared v n e m) (received s t (copy_at s w.copies d 0) request d (Cleared v n e m)))
    unfolding received
    by_cleared v n e m f z = rw (swept_keep s) (same_records 0 _ (clears v n e m f z))

    pub receipt_keeps : (g : Kind) → kind_sound s g ≡ true → Sent w.tables.queue (from d g) → Inv s (receiving s w d g (received s t (copy_at s w.copies d (object_of g)) request d g))
    receipt_keeps (Renew o n e ver) f z = by_renew o n e ver z
    receipt_keeps (Grant o n x e ver y p) f z = by_grant o n x e ver y p z
    receipt_keeps (Invalidate o e ver) f z = by_invalidate o e ver z
    receipt_keeps (Ack o e ver) f z = by_ack o e ver z
    receipt_keeps (Offer v n e) f z = by_offer v n e z
    receipt_keeps (Dropped v n e) f z = by_dropped v n e z
    receipt_keeps (Batch v n e m) f z = by_batch v n e m z
    receipt_keeps (Cleared v n e m) f z = by_cleared v n e m (and-true (ltb v s.volumes) (set_sound s v m) f).1 z
