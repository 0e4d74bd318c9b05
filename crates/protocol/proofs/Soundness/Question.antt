-- Question 1 in a run: in range it never refuses, out of range it always does.
use Rattle.std.specs.Prelude.{ℕ, ◌<◌, Bool, true, false, not, ◌||◌, List, [], ◌∷◌, ◌≡◌, refl, length}
use Rattle.std.proofs.Common.{arith, ⊎_elim, sym, ap, ◌∙◌}
use borrow.Author.Tests.{lt-ltb, le-leb, eq-eqb}
use Rattle.laws.specs.Choice.{cond_keeps, true_or_false, both_true, not_both}
use Rattle.laws.specs.Loop.{all_of}
use Rattle.laws.specs.Lists.{All, all_at}
use Rattle.protocol.specs.declared.records.Request.{Request}
use Rattle.protocol.specs.declared.setup.Setup.{Setup}
use Rattle.protocol.specs.declared.step.Answer.{Answer}
use Rattle.protocol.specs.declared.step.Answer.TheVariants.{Refused}
use Rattle.protocol.specs.declared.step.Step.{Step}
use Rattle.protocol.specs.declared.tables.Tables.{Tables}
use Rattle.protocol.specs.Setup.{in_range}
use Rattle.protocol.specs.Messages.{blank}
use Rattle.protocol.specs.Tables.{by_volume, by_object, no_copy, no_request, standing_at}
use Rattle.protocol.specs.Sound.{volume_sound, object_sound, session_sound, holder_sound, queue_sound, tables_sound, copies_sound, request_sound, requests_sound, sound}
use Rattle.protocol.specs.Answers.{is_refused}
use Rattle.protocol.specs.Gate.{known, exists, timely, vacant, growable, refusal_of_step, refusal}
use Rattle.protocol.specs.World.{World, fresh_world, stepped, answer_of, answers}
use Rattle.protocol.specs.Ledger.{accepts}
use Rattle.protocol.specs.Ranges.{Ranges}
use Rattle.protocol.proofs.Ranges.{ranges}
use Rattle.protocol.specs.Soundness.StepCases.{request_of, records_of}
use Rattle.protocol.proofs.Soundness.StepCases.{refused_answer}
use Rattle.protocol.specs.Soundness.Shape.{Shape}
use Rattle.protocol.proofs.Soundness.Shape.{fresh_shape}
use Rattle.protocol.proofs.Soundness.ShapeKept.{stepped_shape}
use Rattle.protocol.specs.Soundness.Bounds.{Timed, Started, Named, Bounded, CopyBounded, RequestBounded}
use Rattle.protocol.proofs.Soundness.Bounds.{fresh_bounded}
use Rattle.protocol.proofs.Soundness.BoundsKept.{stepped_bounded}
use Rattle.protocol.proofs.Soundness.Answered.{accepted_not_refused}
use Rattle.protocol.specs.Soundness.Question.{SoundWorld, RefusedOne}

pub stepped_sound : (s : Setup) (w : World) (x : Step) → SoundWorld s w → SoundWorld s (stepped s w x)
stepped_sound s w x h = record { shape = stepped_shape s w x h.shape; bounds = stepped_bounded s w x h.bounds }

pub fresh_sound : (s : Setup) → in_range s ≡ true → SoundWorld s (fresh_world s)
fresh_sound s e = record { shape = fresh_shape s; bounds = fresh_bounded s e }

-- ---- the tests of question 1 hold
implied : (a b : Bool) → (a ≡ true → b ≡ true) → (not a || b) ≡ true
implied true b f = f refl
implied false b f = refl

module _ (s : Setup) (rs : Ranges s) (t : Tables) (k : Shape t) (h : Bounded s t) where
  volume_is_sound : (v : ℕ) → v < s.volumes → volume_sound t v ≡ true
  volume_is_sound v p =
      both_true
      (both_true
      (le-leb 1 _ (all_at Started t.volumes.epoch v 0 (omega (arith, rs.volumes.1, k.volumes.epoch)) h.volumes.epoch))
      (le-leb _ 2148483647 (all_at Timed t.volumes.expiry v 0 (omega (arith, rs.volumes.1, k.volumes.expiry)) h.volumes.expiry)))
      (le-leb _ 2148483647 (all_at Timed t.volumes.guard v 0 (omega (arith, rs.volumes.1, k.volumes.guard)) h.volumes.guard))

  object_is_sound : (o : ℕ) → o < s.objects → object_sound t o ≡ true
  object_is_sound o p =
      both_true
      (both_true
      (le-leb 1 _ (all_at Started t.objects.version o 0 (omega (arith, rs.objects.1, k.objects.version)) h.objects.version))
      (le-leb _ 2148483647 (all_at Timed t.objects.expiry o 0 (omega (arith, rs.objects.1, k.objects.expiry)) h.objects.expiry)))
      (implied (standing_at t o) _ (λ e. both_true
      (le-leb _ 2148483647 (all_at Timed t.objects.end o 0 (omega (arith, rs.objects.1, k.objects.end)) h.objects.end))
      (lt-ltb _ 4294967295 (h.objects.standing o e))))

  session_is_sound : (d v : ℕ) → d < s.clients → v < s.volumes → session_sound s t d v ≡ true
  session_is_sound d v p q =
      both_true
      (both_true
      (le-leb _ 2148483647 (all_at Timed t.sessions.expiry (by_volume d v) 0 (omega (arith, rs.clients.1, rs.volumes.1, k.sessions.expiry)) h.sessions.expiry))
      (le-leb _ 2148483647 (all_at Timed t.views.expiry (by_volume d v) 0 (omega (arith, rs.clients.1, rs.volumes.1, k.views.expiry)) h.views.expiry)))
      (h.sessions.notes d v (omega (arith, rs.volumes.1)))

  holder_is_sound : (d o : ℕ) → d < s.clients → o < s.objects → holder_sound t d o ≡ true
  holder_is_sound d o p q =
      le-leb _ 2148483647 (all_at Timed t.holders.lease (by_object d o) 0 (omega (arith, rs.clients.1, rs.objects.1, k.holders.lease)) h.holders.lease)

  queue_is_sound : queue_sound s t.queue ≡ true
  unfolding queue_sound
  queue_is_sound =
      both_true (le-leb _ 64 h.queue.len)
      (all_of _ t.queue.len (λ i p. all_at (Named s) t.queue.items i blank (omega (arith, h.queue.len, k.queue.items)) h.queue.items))

  tables_are_sound : tables_sound s t ≡ true
  unfolding tables_sound
  tables_are_sound =
      both_true
      (both_true
      (both_true
      (both_true
      (both_true (le-leb _ 2147483647 h.clock) (all_of _ s.volumes volume_is_sound))
      (all_of _ s.objects object_is_sound))
      (all_of _ s.clients (λ d p. all_of _ s.volumes (λ v. session_is_sound d v p))))
      (all_of _ s.clients (λ d p. all_of _ s.objects (λ o. holder_is_sound d o p))))
      queue_is_sound

module _ (s : Setup) (w : World) (h : SoundWorld s w) where
  copies_are_sound : copies_sound s w.copies ≡ true
  unfolding copies_sound
  copies_are_sound =
      both_true (eq-eqb _ _ h.shape.copies)
      (all_of _ (length w.copies) (λ i p. le-leb _ 2148483647 (all_at CopyBounded w.copies i no_copy p h.bounds.copies)))

  request_is_sound : (r : Request) → RequestBounded s r → request_sound s r ≡ true
  request_is_sound r b = both_true (le-leb 1 _ b.next) (implied r.standing _ (λ e. lt-ltb _ _ (b.object e)))

  requests_are_sound : requests_sound s w.requests ≡ true
  unfolding requests_sound
  requests_are_sound =
      both_true (eq-eqb _ _ h.shape.requests)
      (all_of _ (length w.requests) (λ d p. request_is_sound _ (all_at (RequestBounded s) w.requests d no_request p h.bounds.requests)))

  -- question 1 is answered "yes"
  pub sounds : in_range s ≡ true → sound s w.tables (records_of s w) ≡ true
  unfolding sound
  sounds e = both_true (both_true e (both_true copies_are_sound requests_are_sound)) (tables_are_sound s (ranges s e) w.tables h.shape.tables h.bounds.tables)

-- ---- the answers
-- no other question has the number 1
other_number : (s : Setup) (t : Tables) (r : Request) (x : Step) → refusal_of_step s t r x ≡ 1 → ⊥
unfolding refusal_of_step
other_number s t r x =
    cond_keeps P (known x) (λ _.
    cond_keeps P (exists s t x) (λ _.
    cond_keeps P (timely t x) (λ _.
    cond_keeps P (vacant t x) (λ _.
    cond_keeps P (growable s t r x) (λ _ e. omega arith) (λ _ e. omega arith)) (λ _ e. omega arith)) (λ _ e. omega arith)) (λ _ e. omega arith)) (λ _ e. omega arith)
  where
    P : ℕ → Type 0
    P n = n ≡ 1 → ⊥

pub number_of : (a b : ℕ) → ◌≡◌ {A = Answer} (Refused a) (Refused b) → a ≡ b
number_of a b e = cc

pub never_one : (s : Setup) (w : World) (x : Step) → in_range s ≡ true → SoundWorld s w → RefusedOne (answer_of s w x) → ⊥
unfolding refusal
never_one s w x i h e =
    ⊎_elim (λ a. not_both (ap is_refused e) (accepted_not_refused s w x a))
    (λ a. other_number s w.tables (request_of s w x) x (number_of _ 1 (one a)))
    (true_or_false (accepts s w x))
  where
    one : accepts s w x ≡ false → Refused (refusal_of_step s w.tables (request_of s w x) x) ≡ Refused 1
    one a = rw (sounds s w h i) at (sym (refused_answer s w x a) ∙ e)

-- out of range every step gets 1, whatever the tables
always_one : (s : Setup) (w : World) (x : Step) → in_range s ≡ false → RefusedOne (answer_of s w x)
unfolding refusal sound
always_one s w x i =
    let n : refusal s w.tables (records_of s w) (request_of s w x) x ≡ 1 = unsound s w.tables (records_of s w) (request_of s w x) x i in
    let a : accepts s w x ≡ false = rw n in
    refused_answer s w x a ∙ ap Refused n
  where
    unsound : (s : Setup) (t : Tables) (b : Bool) (r : Request) (x : Step) → in_range s ≡ false → refusal s t b r x ≡ 1
    unsound s t b r x i = rw i

-- ---- a run
in_range_from : (s : Setup) (w : World) (xs : List Step) → in_range s ≡ true → SoundWorld s w → All (λ (a : Answer). RefusedOne a → ⊥) (answers s w xs)
unfolding All answers
in_range_from s w [] i h = tt
in_range_from s w (x ∷ xs) i h = (never_one s w x i h, in_range_from s (stepped s w x) xs i (stepped_sound s w x h))

-- from fresh tables, in range: no answer is a refusal with 1
pub question_one_never : (s : Setup) → in_range s ≡ true → (xs : List Step) → All (λ (a : Answer). RefusedOne a → ⊥) (answers s (fresh_world s) xs)
question_one_never s i xs = in_range_from s (fresh_world s) xs i (fresh_sound s i)

-- "out of range, every step gets 1"
pub question_one_always : (s : Setup) → in_range s ≡ false → (w : World) (xs : List Step) → All RefusedOne (answers s w xs)
unfolding All answers
question_one_always s i w [] = tt
question_one_always s i w (x ∷ xs) = (always_one s w x i, question_one_always s i (stepped s w x) xs)
