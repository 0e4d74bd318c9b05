-- Accepting a write and completing one keep the bounds of question 1.
-- h says that they hold; o is the object of the write, k another one, d a client; x is the value, v says that the version can grow.
use Rattle.std.specs.Prelude.{ℕ, ◌+◌, ◌<◌, ◌≤◌, ◌≡◌, get_or, set}
use Rattle.std.proofs.Common.{arith, ⊎_elim, sym, ◌∙◌, get_or-set_other, lt-ltb}
use Rattle.std.proofs.Math.Bool.{true, false}
use Rattle.laws.specs.Choice.{cond_keeps, same?, both_true}
use Rattle.laws.specs.Loop.{fold_keeps, fold_keeps_in}
use Rattle.laws.specs.Sets.{within_none, within_added}
use Rattle.laws.specs.Each.{each_set, each_get_d, each_store}
use Rattle.protocol.specs.declared.setup.Setup.{Setup}
use Rattle.protocol.specs.declared.tables.Sessions.{Sessions}
use Rattle.protocol.specs.declared.tables.Tables.{Tables}
use Rattle.protocol.specs.Setup.{volume_of, objects_in}
use Rattle.protocol.specs.Ranges.{Ranges}
use Rattle.protocol.specs.Tables.{by_volume, by_object, waiting_at, version_at, with_sessions}
use Rattle.protocol.specs.Writes.{Counted, Staged, latest_end, delays, put_off, delay_if, delayed, opened, awaited, begun, invalidation, notify, notified, marked, mark_if_waiting, ages, age_at, aged_in, aged, clock_set, deserted, posted, released, completed, complete_if, settled, written}
use Rattle.protocol.proofs.LatestEnd.{ends_by}
use Rattle.protocol.specs.Sound.{clock_limit}
use Rattle.protocol.proofs.SoundLaws.{not_cleared, member_fits}
use Rattle.protocol.specs.Soundness.Bounds.{Timed, Started, Named, SessionsBounded, ObjectsBounded, QueueBounded, Bounded}
use Rattle.protocol.proofs.Soundness.Bounds.{unreachable_bounded, notes_bounded, batch_bounded, set_fits, value_bounded, version_bounded, write_bounded, lease_bounded, waiting_bounded, clock_bounded, sessions_bounded, objects_bounded, holders_bounded, queue_bounded, pushed_bounded}

module _ (s : Setup) where
  -- ---- a write accepted
  latest_end_timed : (t : Tables) (o : ℕ) → Ranges s → Bounded s t → Timed (latest_end s t o)
  latest_end_timed t o rs h =
      ends_by s t o 2148483647 (omega (arith, h.clock, rs.m.1)) (each_get_d Timed _ (volume_of s o) 0 h.volumes.guard (omega arith))
      (λ d _ _. omega (arith, each_get_d Timed _ (by_volume d (volume_of s o)) 0 h.sessions.expiry (omega arith), each_get_d Timed _ (by_object d o) 0 h.holders.lease (omega arith)))

  opened_standing : (t : Tables) (o : ℕ) → version_at t o < 4294967295 → ObjectsBounded t.objects
      → (k : ℕ) → get_or (set t.objects.standing o true) k false ≡ true → version_at t k < 4294967295
  opened_standing t o v h k e =
      ⊎_elim (λ p. rw p v) (λ p. h.standing k (sym (get_or-set_other t.objects.standing o k true false p) ∙ e)) (same? k o)

  -- a note of an object of the volume
  put_off_bounded : (x : Sessions) (d o : ℕ) → Ranges s → o < s.objects → SessionsBounded s x → SessionsBounded s (put_off x d (volume_of s o) o)
  put_off_bounded x d o rs p h =
      let f : o < 32 = omega (arith, rs.objects.1) in
      let g : volume_of s o < 8 = omega (arith, rs.within o p, rs.volumes.1) in
      batch_bounded _
      (notes_bounded _
      (set_fits s x.notes (by_volume d (volume_of s o)) _ h.notes
      (λ k u l q. within_added _ o _ (member_fits s u o f p (omega arith)) (rw (← q) (h.notes k u l)))) h)

  delayed_bounded : (t : Tables) (o : ℕ) → Ranges s → o < s.objects → SessionsBounded s t.sessions → SessionsBounded s (delayed s t o)
  unfolding delayed
  delayed_bounded t o rs p h =
      fold_keeps (SessionsBounded s) (delay_if s t o)
      (λ x d k. cond_keeps (SessionsBounded s) (delays s (with_sessions t x) o d) (λ e. put_off_bounded x d o rs p k) (λ e. k)) t.sessions 0 s.clients h

  begun_bounded : (t : Tables) (o x : ℕ) → Ranges s → o < s.objects → version_at t o < 4294967295 → Bounded s t → Bounded s (begun s t o x)
  unfolding opened awaited
  begun_bounded t o x rs p v h =
      holders_bounded (waiting_bounded _ h.holders)
      (objects_bounded (write_bounded o true x _ (opened_standing t o v h.objects) (latest_end_timed t o rs h) h.objects)
      (sessions_bounded (delayed_bounded t o rs p h.sessions) h))

  pub invalidation_named : (t : Tables) (o d : ℕ) → o < s.objects → d < s.clients → Named s (invalidation s t o d)
  invalidation_named t o d p q = both_true (lt-ltb d s.clients q) (lt-ltb o s.objects p)

  notified_bounded : (t : Tables) (o : ℕ) → o < s.objects → QueueBounded s t.queue → QueueBounded s (notified s t o)
  unfolding notified
  notified_bounded t o p h =
      fold_keeps_in (QueueBounded s) (notify s t o) s.clients
      (λ q d b k. cond_keeps (QueueBounded s) (waiting_at t d o) (λ e. pushed_bounded q _ (invalidation_named t o d p b) k) (λ e. k))
      t.queue 0 s.clients (omega arith) h

  pub written_bounded : (t : Tables) (o x : ℕ) → Ranges s → o < s.objects → version_at t o < 4294967295 → Bounded s t → Bounded s (written s t o x)
  unfolding written
  written_bounded t o x rs p v h =
      let b = begun_bounded t o x rs p v h in
      queue_bounded (notified_bounded (begun s t o x) o p b.queue) b

  -- ---- a write completed
  posted_bounded : (t : Tables) (o : ℕ) → ObjectsBounded t.objects → ObjectsBounded (posted t o)
  unfolding posted
  posted_bounded t o h =
      version_bounded _ (each_set Started t.objects.version o _ h.version (omega arith))
      (λ k e. let p = not_cleared t.objects.standing o k e in rw (get_or-set_other t.objects.version o k (version_at t o + 1) 0 p.0) (h.standing k p.1))
      (value_bounded _ (write_bounded o false 0 0 (λ k e. h.standing k (not_cleared t.objects.standing o k e).1) (omega arith) h))

  pub marked_bounded : (x : Sessions) (d v : ℕ) → SessionsBounded s x → SessionsBounded s (marked x d v)
  marked_bounded x d v h =
      batch_bounded _ (notes_bounded _ (set_fits s x.notes (by_volume d v) 0 h.notes (λ k u p q. within_none (objects_in s u))) (unreachable_bounded _ h))

  deserted_bounded : (t : Tables) (o : ℕ) → SessionsBounded s t.sessions → SessionsBounded s (deserted s t o)
  unfolding deserted
  deserted_bounded t o h =
      fold_keeps (SessionsBounded s) (mark_if_waiting s t o) (λ x d k. cond_keeps (SessionsBounded s) (waiting_at t d o) (λ e. marked_bounded x d (volume_of s o) k) (λ e. k)) t.sessions 0 s.clients h

  aged_bounded : (clock : ℕ) (x : Sessions) → SessionsBounded s x → SessionsBounded s (aged s clock x)
  unfolding aged aged_in
  aged_bounded clock x h =
      fold_keeps (SessionsBounded s) (aged_in s clock)
      (λ y d k. fold_keeps (SessionsBounded s) (age_at s clock d) (λ z v l. cond_keeps (SessionsBounded s) (ages s clock z d v) (λ e. marked_bounded z d v l) (λ e. l)) y 0 s.volumes k)
      x 0 s.clients h

  pub clock_set_bounded : (t : Tables) (clock : ℕ) → clock ≤ clock_limit → Bounded s t → Bounded s (clock_set s t clock)
  unfolding clock_set
  clock_set_bounded t clock k h = sessions_bounded (aged_bounded clock t.sessions h.sessions) (clock_bounded clock k h)

  completed_bounded : (t : Tables) (o : ℕ) → Bounded s t → Bounded s (completed s t o)
  unfolding completed released
  completed_bounded t o h =
      sessions_bounded (deserted_bounded t o h.sessions)
      (holders_bounded
      (waiting_bounded _ (lease_bounded _ (each_store Timed _ _ _ t.holders.lease s.clients h.holders.lease (λ d b. omega arith)) h.holders))
      (objects_bounded (posted_bounded t o h.objects) h))

  pub settled_bounded : (g : Staged) → Bounded s g.tables → Bounded s (settled s g).tables
  unfolding settled
  settled_bounded g h =
      fold_keeps (λ (c : Counted). Bounded s c.tables) (complete_if g.test s)
      (λ c o k. cond_keeps (λ (c : Counted). Bounded s c.tables) (g.test c.tables o) (λ e. completed_bounded c.tables o k) (λ e. k))
      (record { count = 0; tables = g.tables }) g.from g.many h
