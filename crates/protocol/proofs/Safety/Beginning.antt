-- A write begins: whom it does not wait for gets a note or is not counted on already, it outlasts the leases of whom it waits for, and its INVALIDATEs go out.
use Rattle.std.specs.Prelude.{ℕ, ◌<◌, ◌≤◌, min, Bool, not, List, ◌⊎◌, ◌≡◌, get_or}
use Rattle.std.proofs.Common.{arith, inl, inr, ⊎_elim, sym, ap, ◌∙◌}
use Rattle.std.proofs.Math.Bool.{true, false}
use Rattle.laws.specs.Choice.{cond_keeps, same?, true_or_false, both_true, not_both, and-false}
use Rattle.laws.specs.Loop.{fold_keeps_in}
use Rattle.laws.specs.Sets.{set_of, set_in}
use Rattle.protocol.specs.declared.message.Queue.{Queue}
use Rattle.protocol.specs.declared.message.Kind.TheVariants.{Renew, Grant, Invalidate, Ack, Offer, Dropped, Batch, Cleared}
use Rattle.protocol.specs.declared.setup.Setup.{Setup}
use Rattle.protocol.specs.declared.tables.Tables.{Tables}
use Rattle.protocol.specs.Setup.{volume_of}
use Rattle.protocol.specs.Tables.{by_volume, guard_at, session_expiry_at, unreachable_at, standing_at, lease_at, waiting_at, with_sessions, with_objects, with_holders, with_queue}
use Rattle.protocol.specs.Updates.{set_write, set_waiting}
use Rattle.protocol.specs.Leases.{server_alive}
use Rattle.protocol.specs.Writes.{waits, delays, delayed, latest_end, opened, awaited, begun, invalidation, notify, notified, written}
use Rattle.protocol.proofs.LatestEnd.{ends_after_guard, ends_after_leases}
use Rattle.protocol.specs.World.{World}
use Rattle.protocol.specs.Soundness.Shape.{SessionsShape, Shape}
use Rattle.protocol.proofs.Soundness.Shape.{sessions_shape, sent_shape}
use Rattle.protocol.specs.Safety.Invariant.{InvalidateOk, Acknowledges, Unwaited, excuses_of, Inv}
use Rattle.protocol.proofs.Safety.Tools.{marked_excused, noted_excused, left_none}
use Rattle.protocol.specs.Safety.Replaced.{with_tables, Replaced}
use Rattle.protocol.proofs.Safety.Replaced.{here_at, set_replaced}
use Rattle.protocol.specs.Safety.Sending.{listing, Keeps}
use Rattle.protocol.proofs.Safety.Sending.{each, acked_before, send_single}
use Rattle.protocol.specs.Ranges.{Ranges}
use Rattle.protocol.proofs.Soundness.ShapeKept.{delayed_shape, begun_shape}
use Rattle.protocol.specs.Safety.View.{excused}
use Rattle.protocol.specs.Safety.Marks.{Doubted}
use Rattle.protocol.proofs.Safety.Marks.{doubts_keep}
use Rattle.protocol.proofs.Safety.Delaying.{delayed_doubts, delayed_notes}

-- ---- whom a write waits for, and until when

-- who is not waited for has a dead lease
pub unwaited_dead : (s : Setup) (t : Tables) (o d : ℕ) → waits s t o d ≡ false
    → (server_alive t.clock (lease_at t d o) ≡ false) ⊎ (server_alive t.clock (session_expiry_at t d (volume_of s o)) ≡ false)
unfolding waits
unwaited_dead s t o d e = and-false (server_alive t.clock (lease_at t d o)) _ e

-- Q1: who is not waited for cannot show the copy, or is not counted on once the notes are made
unwaited : (s : Setup) (t : Tables) (o : ℕ) → Ranges s → o < s.objects → SessionsShape t.sessions → (d : ℕ) → d < s.clients → waits s t o d ≡ false
    → Unwaited t.clock (lease_at t d o) (get_or (delayed s t o).expiry (by_volume d (volume_of s o)) 0) (excused (delayed s t o).unreachable (delayed s t o).notes d (volume_of s o) o)
unfolding delays
unwaited s t o range ho shape d hd e = ⊎_elim inl (λ p. ⊎_elim (alive p) inl (true_or_false (server_alive t.clock (lease_at t d o)))) (unwaited_dead s t o d e)
  where
    doubts : Doubted s t.sessions (delayed s t o)
    doubts = delayed_doubts s t o range ho shape

    alive : server_alive t.clock (session_expiry_at t d (volume_of s o)) ≡ false → server_alive t.clock (lease_at t d o) ≡ true
        → Unwaited t.clock (lease_at t d o) (get_or (delayed s t o).expiry (by_volume d (volume_of s o)) 0) (excused (delayed s t o).unreachable (delayed s t o).notes d (volume_of s o) o)
    alive p q =
        inr (
          rw doubts.expiry p,
          ⊎_elim (λ r. doubts.excuses d (volume_of s o) o hd (range.within o ho) ho (marked_excused _ _ d (volume_of s o) o r))
              (λ r. noted_excused _ _ d (volume_of s o) o (delayed_notes s t o range ho shape d hd (both_true q (both_true (ap not p) (ap not r))))) (true_or_false (unreachable_at t d (volume_of s o))),
        )

-- Q2: the latest end is no earlier than the lesser of the two leases of whom is waited for
outlasts : (s : Setup) (t : Tables) (o d : ℕ) → d < s.clients → waits s t o d ≡ true → min (lease_at t d o) (session_expiry_at t d (volume_of s o)) ≤ latest_end s t o
outlasts s t o d hd e = omega (arith, ends_after_leases s t o d hd e)

-- ---- the write of o stands
module _ (s : Setup) (o : ℕ) {epoch version : List ℕ} {standing standing' : List Bool} (vacant : get_or standing o false ≡ false) (standings : Replaced o true false standing standing') where
  invalidate_begun : {j e ver : ℕ} → InvalidateOk s epoch version standing j e ver → InvalidateOk s epoch version standing' j e ver
  invalidate_begun {j} c = record {
    exists = c.exists;
    reached = c.reached;
    recent = λ a. ⊎_elim inl (λ p. inr (standings.other j (λ q. not_both (rw q at p.0) vacant) ∙ p.0, p.1)) (c.recent a);
  }

  -- no ACK for a write that has just begun is under way
  acknowledges_begun : {j e ver : ℕ} → InvalidateOk s epoch version standing j e ver → Acknowledges s epoch version standing' j e ver → Acknowledges s epoch version standing j e ver
  acknowledges_begun {j} {ver} c a = record { stands = ⊎_elim early (λ p. p.0) (c.recent a.current); current = a.current; next = a.next }
    where
      early : ver ≤ get_or version j 0 → get_or standing j false ≡ true
      early h = absurd (omega (arith, a.next))

-- .. with this value and latest end, and waits for those
module _ (s : Setup) (w : World) (o new end : ℕ) (who : ℕ → Bool) (range : Ranges s) (shape : Shape w.tables) (ho : o < s.objects) (vacant : standing_at w.tables o ≡ false) (inv : Inv s w)
    (guarded : guard_at w.tables (volume_of s o) ≤ end)
    (waited : (d : ℕ) → d < s.clients → who d ≡ true → min (lease_at w.tables d o) (session_expiry_at w.tables d (volume_of s o)) ≤ end)
    (others : (d : ℕ) → d < s.clients → who d ≡ false
    → Unwaited w.tables.clock (lease_at w.tables d o) (session_expiry_at w.tables d (volume_of s o)) (excuses_of w.tables d (volume_of s o) o)) where
  abbrev after : World
  after =
      with_tables w (with_holders (with_objects w.tables (set_write w.tables.objects o true new end))
      (set_waiting w.tables.holders o (set_of who s.clients)))

  standing : Replaced o true false w.tables.objects.standing after.tables.objects.standing
  standing = let b = range.objects.1 in set_replaced w.tables.objects.standing o true false (omega (arith, shape.objects.standing))

  keeps : Keeps s w after
  keeps d (Renew j n e ver) z hd c = c
  keeps d (Grant j n x e ver y p) z hd c = c
  keeps d (Invalidate j e ver) z hd c = invalidate_begun s o vacant standing c
  keeps d (Ack j e ver) z hd c = record {
    invalidate = invalidate_begun s o vacant standing c.invalidate;
    erased = λ a. c.erased (acknowledges_begun s o vacant standing c.invalidate a);
  }
  keeps d (Offer v n e) z hd c = c
  keeps d (Dropped v n e) z hd c = record { exists = c.exists; header = c.header; writes = λ a j h q b. left_none _; remains = c.remains }
  keeps d (Batch v n e m) z hd c = c
  keeps d (Cleared v n e m) z hd c = c

  stands_keeps : Inv s after
  stands_keeps =
      let b = range.objects.1 in
      let t = w.tables in
      let ends = set_replaced t.objects.end o end 0 (omega (arith, shape.objects.end)) in
      let waiting = set_replaced t.holders.waiting o (set_of who s.clients) 0 (omega (arith, shape.holders.waiting)) in
      record {
        bounds = inv.bounds;
        epochs = inv.epochs;
        numbers = inv.numbers;
        versions = inv.versions;
        offers = inv.offers;
        batches = inv.batches;
        writes = record {
          guards = λ j hj st.
              ⊎_elim (λ q. rw (here_at ends j q) (rw q guarded)) (λ q. rw (ends.other j q) (inv.writes.guards j hj (sym (standing.other j q) ∙ st))) (same? j o);
          waits = λ d j hd hj st wt.
              ⊎_elim (λ q. rw (here_at ends j q) (rw q (waited d hd (sym (set_in who s.clients d hd) ∙ rw (here_at waiting j q) at wt))))
              (λ q. rw (ends.other j q) (inv.writes.waits d j hd hj (sym (standing.other j q) ∙ st) (rw (waiting.other j q) at wt))) (same? j o);
          others = λ d j hd hj st wt.
              ⊎_elim (λ q. rw q (others d hd (sym (set_in who s.clients d hd) ∙ rw (here_at waiting j q) at wt)))
              (λ q. inv.writes.others d j hd hj (sym (standing.other j q) ∙ st) (rw (waiting.other j q) at wt)) (same? j o);
        };
        views = inv.views;
        messages = each inv keeps;
        pairs = acked_before s w _ _ _ inv (λ d j e ver c a. acknowledges_begun s o vacant standing c.invalidate a);
      }

-- the notes first, then the write
module _ (s : Setup) (w : World) (o new : ℕ) (range : Ranges s) (shape : Shape w.tables) (ho : o < s.objects) (vacant : standing_at w.tables o ≡ false) (inv : Inv s w) where
  doubts : Doubted s w.tables.sessions (delayed s w.tables o)
  doubts = delayed_doubts s w.tables o range ho shape.sessions

  abbrev noted : World
  noted = with_tables w (with_sessions w.tables (delayed s w.tables o))

  begun_keeps : Inv s (with_tables w (begun s w.tables o new))
  unfolding opened awaited
  begun_keeps =
      stands_keeps s noted o new (latest_end s w.tables o) (waits s w.tables o) range (sessions_shape (delayed_shape s w.tables o shape.sessions) shape) ho vacant
      (doubts_keep s range w _ doubts inv) (ends_after_guard s w.tables o) (λ d hd e. rw doubts.expiry (outlasts s w.tables o d hd e)) (unwaited s w.tables o range ho shape.sessions)

  begun_stands : standing_at (begun s w.tables o new) o ≡ true
  unfolding opened
  begun_stands = let b = range.objects.1 in (set_replaced w.tables.objects.standing o true false (omega (arith, shape.objects.standing))).here

-- the INVALIDATEs of a standing write
notified_keeps : (s : Setup) (w : World) (o : ℕ) → o < s.objects → standing_at w.tables o ≡ true → Shape w.tables → Inv s w
    → Inv s (listing w (notified s w.tables o))
unfolding notified
notified_keeps s w o ho st n inv =
    (fold_keeps_in Kept (notify s w.tables o) s.clients turn w.tables.queue 0 s.clients (omega arith) (n, inv)).1
  where
    Kept : Queue → Type 0
    Kept q = Shape (with_queue w.tables q) × Inv s (listing w q)

    turn : (q : Queue) (d : ℕ) → d < s.clients → Kept q → Kept (notify s w.tables o q d)
    turn q d hd k =
        cond_keeps Kept (waiting_at w.tables d o)
        (λ e. (
          sent_shape (with_queue w.tables q) _ k.0,
          send_single s (listing w q) k.1 (invalidation s w.tables o d) k.0.queue.items
              (record { client = hd; kind = record { exists = ho; reached = omega arith; recent = λ b. inr (st, omega arith) } }) (λ i a. a) (λ c i b. b),
        ))
        (λ e. k)

pub written_keeps : (s : Setup) (w : World) (o new : ℕ) → Ranges s → Shape w.tables → o < s.objects → standing_at w.tables o ≡ false → Inv s w
    → Inv s (with_tables w (written s w.tables o new))
unfolding written
written_keeps s w o new range shape ho vacant inv =
    notified_keeps s (with_tables w (begun s w.tables o new)) o ho (begun_stands s w o new range shape ho vacant inv) (begun_shape s w.tables o new shape)
    (begun_keeps s w o new range shape ho vacant inv)
