-- In every run from fresh tables a GRANT under way names a version, and so what it fills is a copy: version 0 is none.
-- Letters: s setup, w world, x a step, t tables, q a message list, m a message, k its kind, g what is staged, d client, o object, v volume, n number, e epoch, ver
-- version, r a request, c a copy.
use Rattle.std.specs.Prelude.{ℕ, ◌<◌, ◌≤◌, true, List, [], ◌∷◌, ◌≡◌, ltb}
use Rattle.std.proofs.Common.{arith, ⊎_elim, ltb-true}
use Rattle.laws.specs.Choice.{cond_keeps, true_or_false}
use Rattle.laws.specs.Loop.{fold_keeps}
use Rattle.laws.specs.Lists.{All, remove_at, all_snoc, all_remove, all_at}
use Rattle.laws.specs.Each.{each_set, each_get_d, each_replicate}
use Rattle.protocol.specs.declared.message.Kind.{Kind}
use Rattle.protocol.specs.declared.message.Kind.TheVariants.{Renew, Grant, Invalidate, Ack, Offer, Dropped, Batch, Cleared}
use Rattle.protocol.specs.declared.message.Message.{Message}
use Rattle.protocol.specs.declared.message.Queue.{Queue}
use Rattle.protocol.specs.declared.records.Copy.{Copy}
use Rattle.protocol.specs.declared.records.Request.{Request}
use Rattle.protocol.specs.declared.setup.Setup.{Setup}
use Rattle.protocol.specs.declared.step.Decision.{Decision}
use Rattle.protocol.specs.declared.step.Step.{Step}
use Rattle.protocol.specs.declared.tables.Tables.{Tables}
use Rattle.protocol.specs.Setup.{in_range, volume_of}
use Rattle.protocol.specs.Ranges.{Ranges}
use Rattle.protocol.proofs.Ranges.{ranges}
use Rattle.protocol.specs.Messages.{blank, message_at, has_room, pushed, removed}
use Rattle.protocol.specs.Tables.{waiting_at, version_at, fresh_tables}
use Rattle.protocol.specs.Writes.{Staged, Counted, notify, notified, begun, written, completed, complete_if, settled, clock_set}
use Rattle.protocol.specs.Server.{noted, offered, batched, has_notes, clear_taken, notes_dropped, notes_cleared, lowest_waited, volume_renewed, object_renewed, granted, must_drop, stale, being_written, renewed_by, renewed, ack_taken, acked, ack_staged, drop_taken, dropped, drop_staged, server_restarted}
use Rattle.protocol.specs.Client.{showable, stands}
use Rattle.protocol.specs.Sound.{kind_sound}
use Rattle.protocol.proofs.SoundLaws.{named}
use Rattle.protocol.specs.Decide.{Received, taken, read_decided, ask_decided, deliver_decided, restart_decided, grant_received, invalidate_received, offer_received, batch_received, received}
use Rattle.protocol.specs.World.{World, fresh_world, stepped, ran}
use Rattle.protocol.specs.Ledger.{accepts}
use Rattle.protocol.specs.Soundness.StepCases.{Accepted, copy_of, request_of, records_of}
use Rattle.protocol.proofs.Soundness.StepCases.{accepted, by_kind, performed_of, tables_after, refused_keeps, setup_in_range, clock_performed, read_performed, ask_performed, write_performed, deliver_performed, lose_performed, double_performed, server_performed, client_performed}
use Rattle.protocol.specs.Soundness.Bounds.{Started}
use Rattle.protocol.proofs.Soundness.Bounds.{named_at}
use Rattle.protocol.specs.Soundness.Question.{SoundWorld}
use Rattle.protocol.proofs.Soundness.Question.{stepped_sound}
use Rattle.protocol.proofs.Reached.{run_sound}
use Rattle.promises.specs.Reasons.Worth.{WorthOf, AllWorth}

-- ---- the message list
sent_worth : (q : Queue) (m : Message) → WorthOf m → All WorthOf q.items → All WorthOf (pushed q m).items
unfolding pushed
sent_worth q m k h = cond_keeps (λ (u : Queue). All WorthOf u.items) (has_room q) (λ _. each_set WorthOf q.items q.len m h k) (λ _. h)

taken_worth : (t : Tables) (i : ℕ) → AllWorth t → AllWorth (taken t i)
unfolding removed
taken_worth t i h = all_snoc WorthOf (remove_at t.queue.items i) blank (all_remove WorthOf t.queue.items i h) tt

pub at_worth : (t : Tables) (i : ℕ) → AllWorth t → WorthOf (message_at t.queue i)
at_worth t i h = each_get_d WorthOf t.queue.items i blank h tt

-- ---- writes
completed_worth : (s : Setup) (t : Tables) (o : ℕ) → AllWorth t → AllWorth (completed s t o)
unfolding completed
completed_worth s t o h = h

settled_worth : (s : Setup) (g : Staged) → AllWorth g.tables → AllWorth (settled s g).tables
unfolding settled
settled_worth s g h =
    fold_keeps (λ (c : Counted). AllWorth c.tables) (complete_if g.test s)
    (λ c o k. cond_keeps (λ (c : Counted). AllWorth c.tables) (g.test c.tables o) (λ _. completed_worth s c.tables o k) (λ _. k))
    (record { count = 0; tables = g.tables }) g.from g.many h

written_worth : (s : Setup) (t : Tables) (o x : ℕ) → AllWorth t → AllWorth (written s t o x)
unfolding written notified
written_worth s t o x h =
    fold_keeps (λ (q : Queue). All WorthOf q.items) (notify s (begun s t o x) o)
    (λ q d k. cond_keeps (λ (u : Queue). All WorthOf u.items) (waiting_at (begun s t o x) d o) (λ _. sent_worth q _ tt k) (λ _. k))
    t.queue 0 s.clients h

-- ---- messages received
renewed_worth : (s : Setup) (t : Tables) (d o n e ver : ℕ) → 1 ≤ version_at t o → AllWorth t → AllWorth (renewed s t d o n e ver)
unfolding renewed renewed_by noted offered batched granted volume_renewed object_renewed
renewed_worth s t d o n e ver k h =
    cond_keeps AllWorth (stale t d n) (λ _. h) (λ _.
    cond_keeps AllWorth (must_drop (noted t d n) d (volume_of s o) e) (λ _. sent_worth t.queue _ tt h) (λ _.
    cond_keeps AllWorth (has_notes (noted t d n) d (volume_of s o)) (λ _. sent_worth t.queue _ tt h) (λ _.
    cond_keeps AllWorth (ltb (lowest_waited s (noted t d n) d (volume_of s o)) s.objects) (λ _. sent_worth t.queue _ tt h) (λ _.
    cond_keeps AllWorth (being_written (noted t d n) o) (λ _. h) (λ _. sent_worth t.queue _ k h)))))

ack_worth : (s : Setup) (t : Tables) (d o e ver : ℕ) → AllWorth t → AllWorth (ack_staged s t d o e ver).tables
unfolding ack_staged acked
ack_worth s t d o e ver h = cond_keeps (λ (g : Staged). AllWorth g.tables) (ack_taken s t o e ver) (λ _. h) (λ _. h)

drop_worth : (s : Setup) (t : Tables) (d v n e : ℕ) → AllWorth t → AllWorth (drop_staged s t d v n e).tables
unfolding drop_staged dropped
drop_worth s t d v n e h = cond_keeps (λ (g : Staged). AllWorth g.tables) (drop_taken t d v n e) (λ _. h) (λ _. h)

cleared_worth : (s : Setup) (t : Tables) (d v n e m : ℕ) → AllWorth t → AllWorth (notes_cleared s t d v n e m)
unfolding notes_cleared notes_dropped
cleared_worth s t d v n e m h = cond_keeps AllWorth (clear_taken t d v n e) (λ _. h) (λ _. h)

abbrev ReceivedWorth : Received → Type 0
ReceivedWorth g = AllWorth g.counted.tables

received_worth : (s : Setup) (t : Tables) (c : Copy) (r : Request) (d : ℕ) (k : Kind) → kind_sound s k ≡ true → ((o : ℕ) → o < s.objects → 1 ≤ version_at t o)
    → AllWorth t → ReceivedWorth (received s t c r d k)
unfolding received grant_received invalidate_received offer_received batch_received
received_worth s t c r d (Renew o n e ver) q p h = renewed_worth s t d o n e ver (p o (ltb-true _ _ q)) h
received_worth s t c r d (Grant o n x e ver y a) q p h = cond_keeps ReceivedWorth (stands r n) (λ _. h) (λ _. h)
received_worth s t c r d (Invalidate o e ver) q p h = sent_worth t.queue _ tt h
received_worth s t c r d (Ack o e ver) q p h = settled_worth s _ (ack_worth s t d o e ver h)
received_worth s t c r d (Offer v n e) q p h = cond_keeps ReceivedWorth (stands r n) (λ _. sent_worth t.queue _ tt h) (λ _. h)
received_worth s t c r d (Dropped v n e) q p h = settled_worth s _ (drop_worth s t d v n e h)
received_worth s t c r d (Batch v n e m) q p h = cond_keeps ReceivedWorth (stands r n) (λ _. sent_worth t.queue _ tt h) (λ _. h)
received_worth s t c r d (Cleared v n e m) q p h = cleared_worth s t d v n e m h

-- ---- a step
module _ (s : Setup) (w : World) (x : Step) (sound : SoundWorld s w) (h : AllWorth w.tables) where
  module _ (a : accepts s w x ≡ true) where
    facts : Accepted s w.tables (records_of s w) (request_of s w x) x
    facts = accepted s w x a

    range : Ranges s
    range = ranges s (setup_in_range facts)

    started : (o : ℕ) → o < s.objects → 1 ≤ version_at w.tables o
    started o ho =
        let b = range.objects.1 in
        all_at Started w.tables.objects.version o 0 (omega (arith, sound.shape.tables.objects.version)) sound.bounds.tables.objects.version

    abbrev m : Message
    m = message_at w.tables.queue x.place

    abbrev Done : Decision → Type 0
    Done g = AllWorth g.outcome.tables

    performed_worth : Done (performed_of s w x)
    unfolding read_decided ask_decided deliver_decided restart_decided server_restarted clock_set
    performed_worth =
        by_kind (Done (performed_of s w x)) x facts.passes.knows
        (λ e. rw (clock_performed s w.tables (copy_of s w x) (request_of s w x) x e) (settled_worth s _ h))
        (λ e. rw (read_performed s w.tables (copy_of s w x) (request_of s w x) x e) (cond_keeps Done (showable s w.tables (copy_of s w x) x.client x.object) (λ _. h) (λ _. h)))
        (λ e. rw (ask_performed s w.tables (copy_of s w x) (request_of s w x) x e) (sent_worth w.tables.queue _ tt h))
        (λ e. rw (write_performed s w.tables (copy_of s w x) (request_of s w x) x e) (settled_worth s _ (written_worth s w.tables x.object x.value h)))
        (λ e. rw (deliver_performed s w.tables (copy_of s w x) (request_of s w x) x e)
        (received_worth s (taken w.tables x.place) (copy_of s w x) (request_of s w x) m.client m.kind (named s m (named_at s range w.tables x.place sound.bounds.tables)).1 started
        (taken_worth w.tables x.place h)))
        (λ e. rw (lose_performed s w.tables (copy_of s w x) (request_of s w x) x e) (taken_worth w.tables x.place h))
        (λ e. rw (double_performed s w.tables (copy_of s w x) (request_of s w x) x e) (sent_worth w.tables.queue _ (at_worth w.tables x.place h) h))
        (λ e. rw (server_performed s w.tables (copy_of s w x) (request_of s w x) x e) h)
        (λ e. rw (client_performed s w.tables (copy_of s w x) (request_of s w x) x e) h)

  step_worth : AllWorth (stepped s w x).tables
  step_worth = ⊎_elim (λ a. rw (tables_after s w x a) (performed_worth a)) (λ a. rw (refused_keeps s w x a) h) (true_or_false (accepts s w x))

fresh_worth : (s : Setup) → AllWorth (fresh_world s).tables
unfolding fresh_tables
fresh_worth s = each_replicate WorthOf 64 blank tt

from_worth : (s : Setup) (xs : List Step) (w : World) → SoundWorld s w → AllWorth w.tables → AllWorth (ran s w xs).tables
unfolding ran
from_worth s [] w sound h = h
from_worth s (x ∷ xs) w sound h = from_worth s xs (stepped s w x) (stepped_sound s w x sound) (step_worth s w x sound h)

pub run_worth : (s : Setup) → in_range s ≡ true → (xs : List Step) → AllWorth (ran s (fresh_world s) xs).tables
unfolding ran
run_worth s i xs = from_worth s xs (fresh_world s) (run_sound s i []) (fresh_worth s)
