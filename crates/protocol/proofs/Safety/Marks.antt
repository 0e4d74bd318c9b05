-- The server counts on fewer copies than before: a mark, any number of them, and notes (Delaying). Nothing else changes by it.
use Rattle.std.specs.Prelude.{ℕ, ◌<◌, ◌≡◌, refl}
use Rattle.std.proofs.Common.{arith, inl, inr, ⊎_elim, sym, ◌∙◌}
use Rattle.std.proofs.Math.Bool.{true, false}
use Rattle.std.proofs.Math.ListN.{get_or}
use Rattle.laws.specs.Choice.{cond_keeps}
use Rattle.laws.specs.Loop.{fold_keeps_in, fold_reaches}
use Rattle.laws.specs.Sets.{bit_at}
use Rattle.protocol.specs.declared.message.Kind.TheVariants.{Renew, Grant, Invalidate, Ack, Offer, Dropped, Batch, Cleared}
use Rattle.protocol.specs.declared.setup.Setup.{Setup}
use Rattle.protocol.specs.declared.tables.Sessions.{Sessions}
use Rattle.protocol.specs.declared.tables.Tables.{Tables}
use Rattle.protocol.specs.Setup.{volume_of}
use Rattle.protocol.specs.Tables.{by_volume, waiting_at, batch_at, with_sessions}
use Rattle.protocol.specs.Updates.{with_unreachable, with_notes, with_batch}
use Rattle.protocol.specs.Writes.{marked, ages, age_at, aged_in, aged, mark_if_waiting, deserted}
use Rattle.protocol.specs.World.{World}
use Rattle.protocol.specs.Ranges.{Ranges}
use Rattle.protocol.specs.Soundness.Shape.{SessionsShape}
use Rattle.protocol.proofs.Soundness.ShapeKept.{marked_shape}
use Rattle.protocol.specs.Safety.View.{excused, View}
use Rattle.protocol.specs.Safety.Invariant.{CoveredIn, Inv}
use Rattle.protocol.specs.Safety.Stores.{After}
use Rattle.protocol.proofs.Safety.Stores.{at_place, off_place, volume_set}
use Rattle.protocol.proofs.Safety.Tools.{marked_excused, noted_excused, excused_grows}
use Rattle.protocol.specs.Safety.Replaced.{with_tables}
use Rattle.protocol.proofs.Safety.Covering.{covered_by}
use Rattle.protocol.specs.Safety.Sending.{Keeps}
use Rattle.protocol.proofs.Safety.Sending.{each}
use Rattle.protocol.specs.Safety.Marks.{Doubted}

pub undoubted : (s : Setup) (x : Sessions) → Doubted s x x
undoubted s x = record { seen = refl; expiry = refl; offer = refl; marks = λ d v hd hv e. e; excuses = λ d v o hd hv ho e. e; batches = λ d v hd hv. inr (refl, refl, refl) }

-- doubts upon doubts
pub doubted_on : {s : Setup} {x x' x'' : Sessions} → Doubted s x x' → Doubted s x' x'' → Doubted s x x''
doubted_on a b = record {
  seen = b.seen ∙ a.seen;
  expiry = b.expiry ∙ a.expiry;
  offer = b.offer ∙ a.offer;
  marks = λ d v hd hv e. b.marks d v hd hv (a.marks d v hd hv e);
  excuses = λ d v o hd hv ho e. b.excuses d v o hd hv ho (a.excuses d v o hd hv ho e);
  batches = λ d v hd hv.
      ⊎_elim inl
      (λ q. ⊎_elim (λ p. inl (q.0 ∙ p)) (λ p. inr (q.0 ∙ p.0, q.1 ∙ p.1, q.2 ∙ p.2)) (a.batches d v hd hv))
      (b.batches d v hd hv);
}

-- ---- they keep the invariant
module _ (s : Setup) (range : Ranges s) (w : World) (x' : Sessions) (doubts : Doubted s w.tables.sessions x') (inv : Inv s w) where
  abbrev doubtful : Sessions
  doubtful = with_batch (with_notes (with_unreachable w.tables.sessions x'.unreachable) x'.notes) x'.batch

  abbrev after : World
  after = with_tables w (with_sessions w.tables doubtful)

  covered : (d v : ℕ) (view : View) → d < s.clients → v < s.volumes → CoveredIn s w.tables d v view → CoveredIn s after.tables d v view
  covered d v view hd hv c = covered_by c (omega arith) (λ o h. doubts.excuses d v o hd hv h.exists) (λ o h. omega arith)

  -- no batch stands that did not
  void : (d v : ℕ) → d < s.clients → v < s.volumes → batch_at w.tables d v ≡ 0 → batch_at after.tables d v ≡ 0
  void d v hd hv e = ⊎_elim (λ q. q) (λ q. q.0 ∙ e) (doubts.batches d v hd hv)

  keeps : Keeps s w after
  keeps d (Renew o n e ver) z hd c = c
  keeps d (Grant o n x e ver y p) z hd c =
      let hv = range.within o c.exists in
      record {
        exists = c.exists;
        header = c.header;
        reached = c.reached;
        payload = c.payload;
        object = c.object;
        unoffered = λ a b. let q = c.unoffered a b in (q.0, void d (volume_of s o) hd hv q.1);
        held = c.held;
        covered = λ a. covered d (volume_of s o) _ hd hv (c.covered a);
      }
  keeps d (Invalidate o e ver) z hd c = c
  keeps d (Ack o e ver) z hd c = c
  keeps d (Offer v n e) z hd c = c
  keeps d (Dropped v n e) z hd c = c
  keeps d (Batch v n e m) z hd c = c
  keeps d (Cleared v n e m) z hd c = record {
    exists = c.exists;
    header = c.header;
    unheld = λ a. ⊎_elim (λ q. absurd (a.nonzero (sym a.same ∙ q))) (λ q. c.unheld (record { current = a.current; nonzero = a.nonzero; same = sym q.0 ∙ a.same })) (doubts.batches d v hd c.exists);
  }

  doubting : Inv s after
  doubting = record {
    bounds = inv.bounds;
    epochs = inv.epochs;
    numbers = inv.numbers;
    versions = inv.versions;
    offers = λ d v hd hv ne. doubts.marks d v hd hv (inv.offers d v hd hv ne);
    batches = λ d v hd hv ne.
        ⊎_elim (λ q. absurd (ne q))
        (λ q. let b = inv.batches d v hd hv (λ e. ne (q.0 ∙ e)) in (λ e. b.0 (sym q.1 ∙ e), q.2 ∙ b.1))
        (doubts.batches d v hd hv);
    writes = record {
      guards = inv.writes.guards;
      waits = inv.writes.waits;
      others = λ d o hd ho st wt. ⊎_elim inl (λ a. inr (a.0, doubts.excuses d (volume_of s o) o hd (range.within o ho) ho a.1)) (inv.writes.others d o hd ho st wt);
    };
    views = λ d v hd hv. covered d v _ hd hv (inv.views d v hd hv);
    messages = each inv keeps;
    pairs = inv.pairs;
  }

  -- nothing else changed
  same : record { seen = x'.seen; expiry = x'.expiry; unreachable = x'.unreachable; offer = x'.offer; notes = x'.notes; batch = x'.batch } ≡ doubtful
  same = rw (doubts.seen, doubts.expiry, doubts.offer)

  pub doubts_keep : Inv s (with_tables w (with_sessions w.tables x'))
  doubts_keep = rw (sym same) at doubting

-- ---- a mark: "drops its notes there and voids the batch"
module _ (s : Setup) (range : Ranges s) (x : Sessions) (shape : SessionsShape x) (d v : ℕ) (hd : d < s.clients) (hv : v < s.volumes) where
  at_mark : (k u : ℕ) → u < s.volumes → After d v k u (get_or (marked x d v).unreachable (by_volume k u) false) true (get_or x.unreachable (by_volume k u) false)
  at_mark k u hu = volume_set range hd hv x.unreachable true false shape.unreachable k u hu

  at_notes : (k u : ℕ) → u < s.volumes → After d v k u (get_or (marked x d v).notes (by_volume k u) 0) 0 (get_or x.notes (by_volume k u) 0)
  at_notes k u hu = volume_set range hd hv x.notes 0 0 shape.notes k u hu

  at_batch : (k u : ℕ) → u < s.volumes → After d v k u (get_or (marked x d v).batch (by_volume k u) 0) 0 (get_or x.batch (by_volume k u) 0)
  at_batch k u hu = volume_set range hd hv x.batch 0 0 shape.batch k u hu

  pub marked_there : get_or (marked x d v).unreachable (by_volume d v) false ≡ true
  marked_there = at_place (at_mark d v hv) refl refl

  marked_stays : (k u : ℕ) → u < s.volumes → get_or x.unreachable (by_volume k u) false ≡ true → get_or (marked x d v).unreachable (by_volume k u) false ≡ true
  marked_stays k u hu e = ⊎_elim (λ a. a.2) (λ a. a.1 ∙ e) (at_mark k u hu)

  -- its notes are not needed any more
  noted_still : (k u o : ℕ) → u < s.volumes → bit_at (get_or x.notes (by_volume k u) 0) o ≡ true → excused (marked x d v).unreachable (marked x d v).notes k u o ≡ true
  noted_still k u o hu e =
      ⊎_elim (λ a. marked_excused _ _ k u o a.2) (λ a. noted_excused _ _ k u o (rw (off_place (at_notes k u hu) a.0) e)) (at_mark k u hu)

  pub marked_doubts : Doubted s x (marked x d v)
  marked_doubts = record {
    seen = refl;
    expiry = refl;
    offer = refl;
    marks = λ k u hk hu e. marked_stays k u hu e;
    excuses = λ k u o hk hu ho. excused_grows _ _ k u o _ _ (λ e. marked_excused _ _ k u o (marked_stays k u hu e)) (noted_still k u o hu);
    batches = λ k u hk hu. ⊎_elim (λ a. inl a.2) (λ a. inr (a.1, off_place (at_notes k u hu) a.0, off_place (at_mark k u hu) a.0)) (at_batch k u hu);
  }

-- ---- those marked whose notes have aged
module _ (s : Setup) (range : Ranges s) (clock : ℕ) where
  -- what is kept on the way from x
  abbrev Doubting : Sessions → Sessions → Type 0
  Doubting x y = SessionsShape y × Doubted s x y

  age_turn : (x : Sessions) (d : ℕ) → d < s.clients → (y : Sessions) (v : ℕ) → v < s.volumes → Doubting x y → Doubting x (age_at s clock d y v)
  age_turn x d hd y v hv p =
      cond_keeps (Doubting x) (ages s clock y d v) (λ e. (marked_shape y d v p.0, doubted_on p.1 (marked_doubts s range y p.0 d v hd hv))) (λ e. p)

  age_client : (x y : Sessions) (d : ℕ) → d < s.clients → Doubting x y → Doubting x (aged_in s clock y d)
  unfolding aged_in
  age_client x y d hd p = fold_keeps_in (Doubting x) (age_at s clock d) s.volumes (age_turn x d hd) y 0 s.volumes (omega arith) p

  pub aged_doubts : (x : Sessions) → SessionsShape x → Doubted s x (aged s clock x)
  unfolding aged
  aged_doubts x h = (fold_keeps_in (Doubting x) (aged_in s clock) s.clients (age_client x) x 0 s.clients (omega arith) (h, undoubted s x)).1

-- ---- those marked whom a write that completes still waits for
module _ (s : Setup) (t : Tables) (o : ℕ) (range : Ranges s) (ho : o < s.objects) (shape : SessionsShape t.sessions) where
  hv : volume_of s o < s.volumes
  hv = range.within o ho

  turn_shape : (x : Sessions) (d : ℕ) → d < s.clients → SessionsShape x → SessionsShape (mark_if_waiting s t o x d)
  turn_shape x d hd h = cond_keeps SessionsShape (waiting_at t d o) (λ e. marked_shape x d (volume_of s o) h) (λ e. h)

  turn_doubts : (x : Sessions) (d : ℕ) → d < s.clients → SessionsShape x → Doubted s x (mark_if_waiting s t o x d)
  turn_doubts x d hd h = cond_keeps (Doubted s x) (waiting_at t d o) (λ e. marked_doubts s range x h d (volume_of s o) hd hv) (λ e. undoubted s x)

  pub deserted_doubts : Doubted s t.sessions (deserted s t o)
  unfolding deserted
  deserted_doubts =
      (fold_keeps_in (λ (x : Sessions). SessionsShape x × Doubted s t.sessions x) (mark_if_waiting s t o) s.clients
      (λ x d hd p. (turn_shape x d hd p.0, doubted_on p.1 (turn_doubts x d hd p.0))) t.sessions 0 s.clients (omega arith) (shape, undoubted s t.sessions)).1

  -- who is waited for is marked, and so is not counted on
  pub deserted_marks : (d : ℕ) → d < s.clients → waiting_at t d o ≡ true → excused (deserted s t o).unreachable (deserted s t o).notes d (volume_of s o) o ≡ true
  unfolding deserted
  deserted_marks d hd e =
      marked_excused _ _ d (volume_of s o) o
      (fold_reaches SessionsShape (λ (x : Sessions). get_or x.unreachable (by_volume d (volume_of s o)) false ≡ true) (mark_if_waiting s t o) s.clients d turn_shape
      (λ x k hk h p. (turn_doubts x k hk h).marks d (volume_of s o) hd hv p) turn t.sessions 0 s.clients (omega arith) (omega arith) (omega arith) shape)
    where
      turn : (x : Sessions) → SessionsShape x → get_or (mark_if_waiting s t o x d).unreachable (by_volume d (volume_of s o)) false ≡ true
      turn x h = rw e (marked_there s range x h d (volume_of s o) hd hv)

pub deserted_keeps : (s : Setup) (w : World) (o : ℕ) → Ranges s → o < s.objects → SessionsShape w.tables.sessions → Inv s w
    → Inv s (with_tables w (with_sessions w.tables (deserted s w.tables o)))
deserted_keeps s w o range ho shape inv = doubts_keep s range w (deserted s w.tables o) (deserted_doubts s w.tables o range ho shape) inv
