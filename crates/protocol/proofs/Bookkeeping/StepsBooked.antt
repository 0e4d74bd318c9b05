-- Every accepted step keeps the ledger and the tables together.
-- Letters: s setup, t and u tables, k their shape, b their bounds, c a copy, r a request, g a decision or what is staged, l a ledger, h that it is
-- booked, m a ledger or a message, q its kind, d client, o object, i place, T clock, y value, n how many, x a step. Of a message: n number, e epoch,
-- w version, x and y the volume's and the object's expiry, v volume or payload. The others, and e elsewhere, are proofs.
use Rattle.std.specs.Prelude.{ℕ, zero, suc, ◌<◌, Bool, true, false, ◌≡◌, ltb, Option}
use native.Mathlib.Omega.{arith}
use mathlib.Core.List.{List, [], ◌∷◌, ◌++◌}
use Rattle.std.proofs.Math.Path.{refl}
use Rattle.std.proofs.Common.{◌∙◌, ltb-true}
use Rattle.std.proofs.Math.Dec.{eqb-suc-zero}
use Rattle.laws.specs.Choice.{cond_keeps, and-true, not_both}
use Rattle.protocol.specs.declared.message.Kind.{Kind}
use Rattle.protocol.specs.declared.message.Kind.TheVariants.{Renew, Grant, Invalidate, Ack, Offer, Dropped, Batch, Cleared}
use Rattle.protocol.specs.declared.message.Message.{Message}
use Rattle.protocol.specs.declared.records.Copy.{Copy}
use Rattle.protocol.specs.declared.records.Request.{Request}
use Rattle.protocol.specs.declared.setup.Setup.{Setup}
use Rattle.protocol.specs.declared.step.Answer.TheVariants.{Done, Delivered}
use Rattle.protocol.specs.declared.step.Decision.{Decision}
use Rattle.protocol.specs.declared.step.Step.{Step}
use Rattle.protocol.specs.declared.tables.Tables.{Tables}
use Rattle.protocol.specs.Setup.{volume_of}
use Rattle.protocol.specs.Messages.{message_at}
use Rattle.protocol.specs.Tables.{standing_at}
use Rattle.protocol.specs.Writes.{unstaged, latest_end, begun, ready, settled, settling, written, clock_set, write_staged, clock_staged}
use Rattle.protocol.specs.Server.{noted, offered, volume_renewed, object_renewed, granted, lowest_waited, must_drop, has_notes, batched, renewed_by, renewed, ack_taken, acked, ack_staged, drop_taken, dropped, of_volume, drop_staged, clear_taken, notes_dropped, notes_cleared, server_restarted, stale, being_written}
use Rattle.protocol.specs.Client.{showable, stands}
use Rattle.protocol.specs.Sound.{kind_sound}
use Rattle.protocol.proofs.SoundLaws.{named}
use Rattle.protocol.specs.Answers.{reported, completed_answer}
use Rattle.protocol.specs.Decide.{Received, uncounted, kept, answered, counting, received, grant_received, invalidate_received, offer_received, batch_received, taken, performed, read_decided, ask_decided, deliver_decided, restart_decided}
use Rattle.protocol.specs.Ledger.{Event, acceptance, server_restart, settling_of, completions, receipt_staged, delivery_staged, read_events, clock_events, write_events, happening, Ledger, book, book_all}
use Rattle.protocol.specs.Soundness.StepCases.{Accepted}
use Rattle.protocol.proofs.Soundness.StepCases.{by_kind, object_exists, place_exists, queue_fits, none_stands, clock_performed, read_performed, ask_performed, write_performed, deliver_performed, lose_performed, double_performed, server_performed, client_performed}
use Rattle.protocol.specs.Soundness.Shape.{Shape}
use Rattle.protocol.proofs.Soundness.Shape.{taken_shape}
use Rattle.protocol.specs.Soundness.Bounds.{Bounded}
use Rattle.protocol.proofs.Soundness.Bounds.{named_at}
use Rattle.protocol.proofs.Bookkeeping.Happening.{clock_happening, read_happening, ask_happening, write_happening, deliver_happening, lose_happening, double_happening, server_happening, client_happening}
use Rattle.protocol.specs.Bookkeeping.Booked.{Booked, SameWrites}
use Rattle.protocol.proofs.Bookkeeping.Booked.{same_booked, begun_booked, restarted_booked}
use Rattle.protocol.specs.Bookkeeping.Settled.{OpenEach, Settlement, StagedOn}
use Rattle.protocol.proofs.Bookkeeping.Settled.{settle, completions_counted, ready_stands, due_stands}
use Rattle.protocol.specs.Ranges.{Ranges}
use Rattle.protocol.proofs.Soundness.ShapeKept.{written_shape, clock_set_shape, acked_shape, dropped_shape}
use Rattle.protocol.specs.Bookkeeping.StepsBooked.{Recorded}

-- ---- what an answer reports
reported_completed : (n : ℕ) → reported (completed_answer n) ≡ n
reported_completed zero = refl
reported_completed (suc n) = rw (eqb-suc-zero n, eqb-suc-zero n)

reported_delivered : (m : Message) (n : ℕ) → reported (Delivered m n) ≡ n
reported_delivered m zero = refl
reported_delivered m (suc n) = rw (eqb-suc-zero n)

book_append : (s : Setup) (l : Ledger) (es fs : List Event) → book_all s l (es ++ fs) ≡ book_all s (book_all s l es) fs
unfolding book_all
book_append s l [] fs = refl
book_append s l (e ∷ es) fs = book_append s (book s l e) es fs

-- ---- what leaves every write alone
pub objects_same : (t u : Tables) → u.objects ≡ t.objects → SameWrites t u
objects_same t u e = record { value = rw e; standing = rw e; pending = rw e; end = rw e }

renewed_same : (s : Setup) (t : Tables) (d o n e w : ℕ) → SameWrites t (renewed s t d o n e w)
unfolding renewed renewed_by granted noted offered batched volume_renewed object_renewed
renewed_same s t d o n e w =
    let v = volume_of s o in
    let u = noted t d n in
    cond_keeps (SameWrites t) (stale t d n) (λ _. objects_same t _ refl) (λ _.
    cond_keeps (SameWrites t) (must_drop u d v e) (λ _. objects_same t _ refl) (λ _.
    cond_keeps (SameWrites t) (has_notes u d v) (λ _. objects_same t _ refl) (λ _.
    cond_keeps (SameWrites t) (ltb (lowest_waited s u d v) s.objects) (λ _. objects_same t _ refl) (λ _.
    cond_keeps (SameWrites t) (being_written u o) (λ _. objects_same t _ refl)
    (λ _. record { value = refl; standing = refl; pending = refl; end = refl })))))

-- ---- what is staged
unstaged_on : (s : Setup) (t : Tables) → Shape t → StagedOn s t (unstaged t)
unstaged_on s t k = record { same = objects_same t t refl; shape = k; stands = λ u o e. not_both e refl; fits = omega arith }

pub clock_on : (s : Setup) (t : Tables) (T : ℕ) → Shape t → StagedOn s t (clock_staged s t T)
unfolding clock_set
clock_on s t T k = record { same = objects_same t _ refl; shape = clock_set_shape s t T k; stands = due_stands s; fits = omega arith }

pub write_on : (s : Setup) (t : Tables) (o y : ℕ) → o < s.objects → Shape t → StagedOn s (begun s t o y) (write_staged s t o y)
unfolding written
write_on s t o y p k = record { same = objects_same _ _ refl; shape = written_shape s t o y k; stands = ready_stands s; fits = omega arith }

acked_same : (t : Tables) (d o : ℕ) → SameWrites t (acked t d o)
unfolding acked
acked_same t d o = objects_same t _ refl

ack_on : (s : Setup) (t : Tables) (d o e w : ℕ) → o < s.objects → Shape t → StagedOn s t (ack_staged s t d o e w)
unfolding ack_staged
ack_on s t d o e w p k =
    cond_keeps (StagedOn s t) (ack_taken s t o e w)
    (λ _. record { same = acked_same t d o; shape = acked_shape t d o k; stands = ready_stands s; fits = omega arith }) (λ _. unstaged_on s t k)

dropped_same : (s : Setup) (t : Tables) (d v : ℕ) → SameWrites t (dropped s t d v)
unfolding dropped
dropped_same s t d v = objects_same t _ refl

drop_on : (s : Setup) (t : Tables) (d v n e : ℕ) → Shape t → StagedOn s t (drop_staged s t d v n e)
unfolding drop_staged
drop_on s t d v n e k =
    cond_keeps (StagedOn s t) (drop_taken t d v n e)
    (λ _. record {
      same = dropped_same s t d v;
      shape = dropped_shape s t d v k;
      stands = λ u o f. ready_stands s u o (and-true (of_volume s v o) (ready s u o) f).1;
      fits = omega arith;
    })
    (λ _. unstaged_on s t k)

cleared_same : (s : Setup) (t : Tables) (d v n e m : ℕ) → SameWrites t (notes_cleared s t d v n e m)
unfolding notes_cleared notes_dropped
cleared_same s t d v n e m = cond_keeps (SameWrites t) (clear_taken t d v n e) (λ _. objects_same t _ refl) (λ _. objects_same t _ refl)

-- ---- a message received
uncounted_settles : (s : Setup) (t u : Tables) (l : Ledger) → SameWrites t u → Booked s t l → Settlement s l 0 (uncounted u) []
unfolding book_all OpenEach
uncounted_settles s t u l e h = record { booked = same_booked s t u l e h; counts = omega arith; opens = tt }

module _ (s : Setup) (rs : Ranges s) (t : Tables) (k : Shape t) (c : Copy) (r : Request) (d : ℕ) (l : Ledger) (h : Booked s t l) where
  grant_settles : (o n x e w y : ℕ) (v : Option ℕ) → Settlement s l 0 (grant_received s t c r d o n x e w y v).counted []
  unfolding grant_received
  grant_settles o n x e w y v =
      cond_keeps (λ (g : Received). Settlement s l 0 g.counted []) (stands r n)
      (λ _. uncounted_settles s t _ l (objects_same t _ refl) h) (λ _. uncounted_settles s t _ l (objects_same t _ refl) h)

  invalidate_settles : (o e w : ℕ) → Settlement s l 0 (invalidate_received t r d o e w).counted []
  unfolding invalidate_received
  invalidate_settles o e w = uncounted_settles s t _ l (objects_same t _ refl) h

  offer_settles : (v n e : ℕ) → Settlement s l 0 (offer_received t r d v n e).counted []
  unfolding offer_received
  offer_settles v n e =
      cond_keeps (λ (g : Received). Settlement s l 0 g.counted []) (stands r n)
      (λ _. uncounted_settles s t _ l (objects_same t _ refl) h) (λ _. uncounted_settles s t _ l (objects_same t _ refl) h)

  batch_settles : (v n e m : ℕ) → Settlement s l 0 (batch_received t r d v n e m).counted []
  unfolding batch_received
  batch_settles v n e m =
      cond_keeps (λ (g : Received). Settlement s l 0 g.counted []) (stands r n)
      (λ _. uncounted_settles s t _ l (objects_same t _ refl) h) (λ _. uncounted_settles s t _ l (objects_same t _ refl) h)

  received_settles : (q : Kind) → kind_sound s q ≡ true → Settlement s l 0 (received s t c r d q).counted (settling_of s (receipt_staged s t d q))
  unfolding received settling
  received_settles (Renew o n e w) f = uncounted_settles s t _ l (renewed_same s t d o n e w) h
  received_settles (Grant o n x e w y v) f = grant_settles o n x e w y v
  received_settles (Invalidate o e w) f = invalidate_settles o e w
  received_settles (Ack o e w) f = settle s rs t _ l (ack_on s t d o e w (ltb-true _ _ f) k) h
  received_settles (Offer v n e) f = offer_settles v n e
  received_settles (Dropped v n e) f = settle s rs t _ l (drop_on s t d v n e k) h
  received_settles (Batch v n e m) f = batch_settles v n e m
  received_settles (Cleared v n e m) f = uncounted_settles s t _ l (cleared_same s t d v n e m) h

acceptance_completes : (s : Setup) (l : Ledger) (o y end : ℕ) → (book s l (acceptance o y end)).completed_count ≡ l.completed_count
unfolding book
acceptance_completes s l o y end = refl

-- ---- an accepted step
module _ (s : Setup) (rs : Ranges s) (t : Tables) (k : Shape t) (b : Bounded s t) (c : Copy) (r : Request) (l : Ledger) (h : Booked s t l) where
  clock_recorded : (T : ℕ) → Recorded s l (counting (settled s (clock_staged s t T))) (book_all s l (clock_events s t T))
  unfolding book_all book
  clock_recorded T =
      let g = clock_staged s t T in
      let q = settle s rs t g l (clock_on s t T k) h in
      rw book_append
      (record { booked = q.booked; reports = completions_counted s l (settling_of s g) ∙ omega (arith, q.counts, reported_completed (settled s g).count) })

  write_recorded : (o y : ℕ) → o < s.objects → standing_at t o ≡ false
      → Recorded s l (counting (settled s (write_staged s t o y))) (book_all s l (write_events s t o y))
  unfolding book_all
  write_recorded o y p v =
      let g = write_staged s t o y in
      let m = book s l (acceptance o y (latest_end s t o)) in
      let q = settle s rs (begun s t o y) g m (write_on s t o y p k) (begun_booked s rs t k l h o y p v) in
      record {
        booked = q.booked;
        reports = completions_counted s m (settling_of s g) ∙ omega (arith, q.counts, reported_completed (settled s g).count, acceptance_completes s l o y (latest_end s t o));
      }

  pub deliver_settles : (i : ℕ) → i < 64
      → Settlement s l 0 (received s (taken t i) c r (message_at t.queue i).client (message_at t.queue i).kind).counted (settling_of s (delivery_staged s t i))
  deliver_settles i p =
      let m = message_at t.queue i in
      let a = named s m (named_at s rs t i b) in
      received_settles s rs (taken t i) (taken_shape t i p k) c r m.client l (same_booked s t (taken t i) l (objects_same t _ refl) h) m.kind a.1

  deliver_recorded : (i : ℕ) → i < 64 → Recorded s l (deliver_decided s t c r i) (book_all s l (completions s (delivery_staged s t i)))
  unfolding deliver_decided
  deliver_recorded i p =
      let m = message_at t.queue i in
      let q = deliver_settles i p in
      record {
        booked = q.booked;
        reports =
            completions_counted s l (settling_of s (delivery_staged s t i))
            ∙ omega (arith, q.counts, reported_delivered m (received s (taken t i) c r m.client m.kind).counted.count);
      }

  -- a step that leaves every write alone and reports none
  quiet : (g : Decision) → SameWrites t g.outcome.tables → reported g.outcome.answer ≡ 0 → Recorded s l g l
  quiet g e f = record { booked = same_booked s t _ l e h; reports = omega (arith, f) }

  -- what is shown is not booked
  read_booked : (d o : ℕ) → book_all s l (read_events s t c d o) ≡ l
  unfolding book_all book
  read_booked d o = cond_keeps (λ (es : List Event). book_all s l es ≡ l) (showable s t c d o) (λ e. refl) (λ e. refl)

  read_recorded : (d o : ℕ) → Recorded s l (read_decided s t c d o) l
  unfolding read_decided
  read_recorded d o =
      cond_keeps (λ (g : Decision). Recorded s l g l) (showable s t c d o) (λ e. quiet _ (objects_same t _ refl) refl) (λ e. quiet _ (objects_same t _ refl) refl)

  ask_recorded : (d o : ℕ) → Recorded s l (ask_decided s t c r d o) l
  unfolding ask_decided
  ask_recorded d o = quiet _ (objects_same t _ refl) refl

  restart_recorded : (d : ℕ) → Recorded s l (restart_decided s t d) l
  unfolding restart_decided
  restart_recorded d = quiet _ (objects_same t _ refl) refl

  server_recorded : Recorded s l (answered kept (server_restarted s t) Done) (book s l server_restart)
  unfolding book
  server_recorded = record { booked = restarted_booked s t l h; reports = omega arith }

  pub performed_recorded : (f : Bool) (x : Step) → Accepted s t f r x → Recorded s l (performed s t c r x) (book_all s l (happening s t c x))
  unfolding book_all
  performed_recorded f x a =
      by_kind (Recorded s l (performed s t c r x) (book_all s l (happening s t c x))) x a.passes.knows
      (λ e. rw (clock_performed s t c r x e, clock_happening s t c x e) (clock_recorded x.clock))
      (λ e. rw (read_performed s t c r x e, read_happening s t c x e, read_booked x.client x.object) (read_recorded x.client x.object))
      (λ e. rw (ask_performed s t c r x e, ask_happening s t c x e) (ask_recorded x.client x.object))
      (λ e. rw (write_performed s t c r x e, write_happening s t c x e) (write_recorded x.object x.value (object_exists a.passes (rw e)) (none_stands a.passes e)))
      (λ e. rw (deliver_performed s t c r x e, deliver_happening s t c x e) (deliver_recorded x.place (omega (arith, place_exists a.passes (rw e), queue_fits a))))
      (λ e. rw (lose_performed s t c r x e, lose_happening s t c x e) (quiet _ (objects_same t _ refl) refl))
      (λ e. rw (double_performed s t c r x e, double_happening s t c x e) (quiet _ (objects_same t _ refl) refl))
      (λ e. rw (server_performed s t c r x e, server_happening s t c x e) server_recorded)
      (λ e. rw (client_performed s t c r x e, client_happening s t c x e) (restart_recorded x.client))
