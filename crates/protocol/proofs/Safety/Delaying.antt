-- The notes of a write: they are doubts too, and each client whose invalidation is put off has one.
use Rattle.std.specs.Prelude.{ℕ, ◌<◌, true, ◌≡◌, get_or}
use Rattle.std.proofs.Common.{arith, inl, inr, ⊎_elim, sym, ◌∙◌, eq-eqb}
use Rattle.std.proofs.Math.Path.{refl}
use Rattle.laws.specs.Choice.{cond_keeps, or_yes}
use Rattle.laws.specs.Loop.{fold_keeps_in, fold_reaches}
use Rattle.laws.specs.Sets.{bit_at, added, bit_added}
use Rattle.protocol.specs.declared.setup.Setup.{Setup}
use Rattle.protocol.specs.declared.tables.Sessions.{Sessions}
use Rattle.protocol.specs.declared.tables.Tables.{Tables}
use Rattle.protocol.specs.Setup.{volume_of}
use Rattle.protocol.specs.Tables.{by_volume, with_sessions}
use Rattle.protocol.specs.Writes.{delays, put_off, delay_if, delayed}
use Rattle.protocol.specs.Ranges.{Ranges}
use Rattle.protocol.specs.Soundness.Shape.{SessionsShape}
use Rattle.protocol.proofs.Soundness.ShapeKept.{put_off_shape}
use Rattle.protocol.specs.Safety.Stores.{After}
use Rattle.protocol.proofs.Safety.Stores.{at_place, off_place, volume_set, object_fits}
use Rattle.protocol.proofs.Safety.Tools.{marked_excused, noted_excused, excused_grows}
use Rattle.protocol.specs.Safety.Marks.{Doubted}
use Rattle.protocol.proofs.Safety.Marks.{undoubted, doubted_on}

-- ---- one note: "a later note voids that batch"
module _ (s : Setup) (range : Ranges s) (x : Sessions) (shape : SessionsShape x) (d v o : ℕ) (hd : d < s.clients) (hv : v < s.volumes) (ho : o < s.objects) where
  abbrev old : ℕ
  old = get_or x.notes (by_volume d v) 0

  at_notes : (k u : ℕ) → u < s.volumes → After d v k u (get_or (put_off x d v o).notes (by_volume k u) 0) (added old o) (get_or x.notes (by_volume k u) 0)
  at_notes k u hu = volume_set range hd hv x.notes (added old o) 0 shape.notes k u hu

  at_batch : (k u : ℕ) → u < s.volumes → After d v k u (get_or (put_off x d v o).batch (by_volume k u) 0) 0 (get_or x.batch (by_volume k u) 0)
  at_batch k u hu = volume_set range hd hv x.batch 0 0 shape.batch k u hu

  pub put_off_there : bit_at (get_or (put_off x d v o).notes (by_volume d v) 0) o ≡ true
  put_off_there = rw (at_place (at_notes d v hv) refl refl, bit_added old o o (object_fits range ho), eq-eqb o o refl) (sym (or_yes (bit_at old o)))

  -- every note stays
  pub put_off_stays : (k u i : ℕ) → u < s.volumes → i < s.objects → bit_at (get_or x.notes (by_volume k u) 0) i ≡ true
      → bit_at (get_or (put_off x d v o).notes (by_volume k u) 0) i ≡ true
  put_off_stays k u i hu hi e =
      ⊎_elim (λ a. rw (a.2, bit_added old o i (object_fits range hi)) (rw (rw (a.0, a.1) at e))) (λ a. rw a.1 e) (at_notes k u hu)

  pub put_off_doubts : Doubted s x (put_off x d v o)
  put_off_doubts = record {
    seen = refl;
    expiry = refl;
    offer = refl;
    marks = λ k u hk hu e. e;
    excuses = λ k u i hk hu hi. excused_grows _ _ k u i _ _ (marked_excused _ _ k u i) (λ e. noted_excused _ _ k u i (put_off_stays k u i hu hi e));
    batches = λ k u hk hu. ⊎_elim (λ a. inl a.2) (λ a. inr (a.1, off_place (at_notes k u hu) a.0, refl)) (at_batch k u hu);
  }

-- the notes made so far do not matter for who gets one
decides : (s : Setup) (t : Tables) (o d : ℕ) (x : Sessions) → x.expiry ≡ t.sessions.expiry → x.unreachable ≡ t.sessions.unreachable → delays s (with_sessions t x) o d ≡ delays s t o d
unfolding delays
decides s t o d x e f = rw (e, f)

-- ---- those of a write of o
module _ (s : Setup) (t : Tables) (o : ℕ) (range : Ranges s) (ho : o < s.objects) (shape : SessionsShape t.sessions) where
  hv : volume_of s o < s.volumes
  hv = range.within o ho

  turn_shape : (x : Sessions) (d : ℕ) → d < s.clients → SessionsShape x → SessionsShape (delay_if s t o x d)
  turn_shape x d hd h = cond_keeps SessionsShape (delays s (with_sessions t x) o d) (λ e. put_off_shape x d (volume_of s o) o h) (λ e. h)

  turn_doubts : (x : Sessions) (d : ℕ) → d < s.clients → SessionsShape x → Doubted s x (delay_if s t o x d)
  turn_doubts x d hd h = cond_keeps (Doubted s x) (delays s (with_sessions t x) o d) (λ e. put_off_doubts s range x h d (volume_of s o) o hd hv ho) (λ e. undoubted s x)

  pub delayed_doubts : Doubted s t.sessions (delayed s t o)
  unfolding delayed
  delayed_doubts =
      (fold_keeps_in (λ (x : Sessions). SessionsShape x × Doubted s t.sessions x) (delay_if s t o) s.clients
      (λ x d hd p. (turn_shape x d hd p.0, doubted_on p.1 (turn_doubts x d hd p.0))) t.sessions 0 s.clients (omega arith) (shape, undoubted s t.sessions)).1

  -- no note changes what decides about one
  Undecided : Sessions → Type 0
  Undecided x = SessionsShape x × (x.expiry ≡ t.sessions.expiry) × (x.unreachable ≡ t.sessions.unreachable)

  turn_undecided : (x : Sessions) (d : ℕ) → d < s.clients → Undecided x → Undecided (delay_if s t o x d)
  unfolding Undecided
  turn_undecided x d hd p = (
    turn_shape x d hd p.0,
    cond_keeps (λ (y : Sessions). y.expiry ≡ t.sessions.expiry) (delays s (with_sessions t x) o d) {x = put_off x d (volume_of s o) o} (λ e. p.1) (λ e. p.1),
    cond_keeps (λ (y : Sessions). y.unreachable ≡ t.sessions.unreachable) (delays s (with_sessions t x) o d) {x = put_off x d (volume_of s o) o} (λ e. p.2) (λ e. p.2),
  )

  abbrev Noted : ℕ → Sessions → Type 0
  Noted d x = bit_at (get_or x.notes (by_volume d (volume_of s o)) 0) o ≡ true

  turn_noted : (d : ℕ) → (x : Sessions) (k : ℕ) → k < s.clients → Undecided x → Noted d x → Noted d (delay_if s t o x k)
  unfolding Undecided
  turn_noted d x k hk p e =
      cond_keeps (Noted d) (delays s (with_sessions t x) o k) (λ _. put_off_stays s range x p.0 k (volume_of s o) o hk hv ho d (volume_of s o) o hv ho e) (λ _. e)

  -- whoever's invalidation is put off has a note
  pub delayed_notes : (d : ℕ) → d < s.clients → delays s t o d ≡ true → Noted d (delayed s t o)
  unfolding delayed Undecided
  delayed_notes d hd e =
      fold_reaches Undecided (Noted d) (delay_if s t o) s.clients d turn_undecided (turn_noted d) turn t.sessions 0 s.clients (omega arith) (omega arith) (omega arith) (shape, refl, refl)
    where
      turn : (x : Sessions) → Undecided x → Noted d (delay_if s t o x d)
      turn x p = rw (decides s t o d x p.1 p.2 ∙ e) (put_off_there s range x p.0 d (volume_of s o) o hd hv ho)
