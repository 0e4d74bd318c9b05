-- Every step of a run makes lawful history.
-- Letters: s setup, w world, t its tables, k their shape or that the world is sound, b their bounds, x a step, i its place or what its kind is, c and
-- z copies, r a request or what is remembered, d client, o object, y value, u latest end, T clock, l ledger, h a history or that a ledger is booked,
-- a that a history is lawful, g what is staged, v what is asked of the invariant P; the others are proofs.
use Rattle.std.specs.Prelude.{ℕ, ◌+◌, ◌<◌, false, ◌≡◌}
use native.Mathlib.Omega.{arith}
use Rattle.std.proofs.Math.Bool.{true}
use mathlib.Core.List.{List, [], ◌∷◌}
use Rattle.std.proofs.Math.Logic.{⊎_elim}
use Rattle.std.proofs.Math.Path.{sym, ap}
use Rattle.std.proofs.Common.{◌∙◌}
use Rattle.laws.specs.Choice.{cond_keeps, true_or_false}
use Rattle.protocol.specs.declared.records.Copy.{Copy}
use Rattle.protocol.specs.declared.records.Request.{Request}
use Rattle.protocol.specs.declared.setup.Setup.{Setup}
use Rattle.protocol.specs.declared.step.Step.{Step}
use Rattle.protocol.specs.declared.tables.Tables.{Tables}
use Rattle.protocol.specs.Setup.{in_range}
use Rattle.protocol.specs.Tables.{value_at, standing_at, pending_at, end_at}
use Rattle.protocol.specs.Writes.{latest_end, begun, settled, write_staged, clock_staged}
use Rattle.protocol.specs.Client.{showable}
use Rattle.protocol.specs.Answers.{reported}
use Rattle.protocol.specs.World.{World, fresh_world, stepped, answer_of, ran, answers}
use Rattle.protocol.specs.Ledger.{Event, acceptance, clock_step, settling_of, completions, delivery_staged, read_events, clock_events, write_events, happening, accepts, events, none, Ledger}
use Rattle.protocol.specs.Agreement.{standing_write}
use Rattle.protocol.specs.Soundness.StepCases.{copy_of, request_of}
use Rattle.protocol.proofs.Soundness.StepCases.{accepted, setup_in_range, by_kind, client_exists, object_exists, place_exists, queue_fits, none_stands}
use Rattle.protocol.specs.Soundness.Shape.{Shape}
use Rattle.protocol.specs.Soundness.Bounds.{Bounded}
use Rattle.protocol.specs.Soundness.Question.{SoundWorld}
use Rattle.protocol.proofs.Soundness.Question.{stepped_sound, fresh_sound}
use Rattle.protocol.specs.Bookkeeping.Booked.{Booked}
use Rattle.protocol.proofs.Bookkeeping.Booked.{vacant_closed, begun_booked, fresh_booked}
use Rattle.protocol.proofs.Bookkeeping.Settled.{settle, clock_ended}
use Rattle.protocol.proofs.Bookkeeping.Happening.{clock_happening, read_happening, ask_happening, write_happening, deliver_happening, lose_happening, double_happening, server_happening, client_happening}
use Rattle.protocol.proofs.Bookkeeping.StepsBooked.{clock_on, write_on, deliver_settles}
use Rattle.protocol.proofs.Bookkeeping.Shown.{copy_read}
use Rattle.protocol.specs.Bookkeeping.Agreed.{Invariant, ReadsCurrent}
use Rattle.protocol.proofs.Bookkeeping.Agreed.{open_stands, step_booked}
use Rattle.protocol.specs.History.{told, history_from, history, last_completed, open_in, how_often, is_completion, reported_in, AddsUp, HistoryAgrees}
use Rattle.protocol.proofs.History.Answered.{answers_told}
use Rattle.protocol.specs.History.Lawful.{LawfulAll}
use Rattle.protocol.proofs.History.Lawful.{ledger_of, ledger_told, told_append, ledger_open, ledger_posted, ledger_tallies, open_counted, completions_lawful, shows_last, ends_in_time}
use Rattle.protocol.specs.Ranges.{Ranges}
use Rattle.protocol.proofs.Ranges.{ranges}

module _ (s : Setup) (rs : Ranges s) (t : Tables) (k : Shape t) (b : Bounded s t) (past : List Event) (h : Booked s t (ledger_of s past)) (a : LawfulAll s past) where
  clock_lawful : (T : ℕ) → LawfulAll s (told (clock_events s t T) past)
  unfolding LawfulAll told
  clock_lawful T =
      let g = clock_staged s t T in
      let q = settle s rs t g (ledger_of s past) (clock_on s t T k) h in
      let after = told (completions s g) past in
      rw (told_append (completions s g) (clock_step T ∷ []) past) (
        λ o y u p i.
            let left = (settled s g).tables in
            let j = open_stands (standing_at left o) (pending_at left o) (end_at left o) y u
            (q.booked.writes o p ∙ ap (λ (l : Ledger). l.open_write o) (ledger_told s (completions s g) past) ∙ ledger_open s after o ∙ i) in
            rw j.1 at ((clock_ended s T t).ends o p j.0),
        completions_lawful s (settling_of s g) past q.opens a,
      )

  write_lawful : (o y : ℕ) → o < s.objects → standing_at t o ≡ false
      → LawfulAll s (told (write_events s t o y) past)
  unfolding LawfulAll told ledger_of
  write_lawful o y p f =
      let g = write_staged s t o y in
      let begins = acceptance o y (latest_end s t o) ∷ past in
      let q = settle s rs (begun s t o y) g (ledger_of s begins) (write_on s t o y p k) (begun_booked s rs t k (ledger_of s past) h o y p f) in
      let free : open_in o past ≡ none = sym (ledger_open s past o) ∙ vacant_closed s rs t k (ledger_of s past) h o p f in
      completions_lawful s (settling_of s g) begins q.opens ((p, free), a)

  deliver_lawful : (c : Copy) (r : Request) (i : ℕ) → i < 64 → LawfulAll s (told (completions s (delivery_staged s t i)) past)
  deliver_lawful c r i p =
      completions_lawful s (settling_of s (delivery_staged s t i)) past (deliver_settles s rs t k b c r (ledger_of s past) h i p).opens a

  read_lawful : (c : Copy) (d o : ℕ) → o < s.objects → (showable s t c d o ≡ true → c.value ≡ value_at t o) → LawfulAll s (told (read_events s t c d o) past)
  unfolding LawfulAll told
  read_lawful c d o p f =
      cond_keeps (λ (es : List Event). LawfulAll s (told es past)) (showable s t c d o) (λ e. (f e ∙ h.values o p ∙ ledger_posted s past a o, a)) (λ e. a)

-- ---- a step
module _ (s : Setup) (w : World) (x : Step) (past : List Event) (k : SoundWorld s w) (current : ReadsCurrent s w) (h : Booked s w.tables (ledger_of s past)) (a : LawfulAll s past) where
  accepted_lawful : accepts s w x ≡ true → LawfulAll s (told (happening s w.tables (copy_of s w x) x) past)
  unfolding LawfulAll told
  accepted_lawful e =
      let q = accepted s w x e in
      let rs = ranges s (setup_in_range q) in
      let t = w.tables in
      let c = copy_of s w x in
      by_kind (LawfulAll s (told (happening s t c x) past)) x q.passes.knows
      (λ i. rw (clock_happening s t c x i) (clock_lawful s rs t k.shape.tables k.bounds.tables past h a x.clock))
      (λ i. rw (read_happening s t c x i) (read_lawful s rs t k.shape.tables k.bounds.tables past h a c x.client x.object (object_exists q.passes (rw i)) (copy_current i (client_exists q.passes (rw i)) (object_exists q.passes (rw i)))))
      (λ i. rw (ask_happening s t c x i) a)
      (λ i. rw (write_happening s t c x i) (write_lawful s rs t k.shape.tables k.bounds.tables past h a x.object x.value (object_exists q.passes (rw i)) (none_stands q.passes i)))
      (λ i. rw (deliver_happening s t c x i) (deliver_lawful s rs t k.shape.tables k.bounds.tables past h a c (request_of s w x) x.place (omega (arith, place_exists q.passes (rw i), queue_fits q))))
      (λ i. rw (lose_happening s t c x i) a)
      (λ i. rw (double_happening s t c x i) a)
      (λ i. rw (server_happening s t c x i) (tt, a))
      (λ i. rw (client_happening s t c x i) a)
    where
      copy_current : x.kind ≡ 2 → x.client < s.clients → x.object < s.objects
          → showable s w.tables (copy_of s w x) x.client x.object ≡ true → (copy_of s w x).value ≡ value_at w.tables x.object
      copy_current i p q f =
          ap (λ (z : Copy). z.value) (copy_read s w x i)
          ∙ current x.client x.object p q (sym (ap (λ (z : Copy). showable s w.tables z x.client x.object) (copy_read s w x i)) ∙ f)

  step_lawful : LawfulAll s (told (events s w x) past)
  unfolding events told
  step_lawful = ⊎_elim (λ e. rw e (accepted_lawful e)) (λ e. rw e a) (true_or_false (accepts s w x))

-- ---- a run
-- the history so far is lawful, and its ledger goes with the tables
pub record Remembered (s : Setup) (w : World) (h : List Event) : Type 0 where
  pub lawful : LawfulAll s h
  pub booked : Booked s w.tables (ledger_of s h)

module _ (s : Setup) (w : World) (x : Step) (past : List Event) (k : SoundWorld s w) where
  pub step_remembered : ReadsCurrent s w → Remembered s w past → Remembered s (stepped s w x) (told (events s w x) past)
  step_remembered f r = record {
    lawful = step_lawful s w x past k f r.booked r.lawful;
    booked = rw (ledger_told s (events s w x) past) at (step_booked s w x (ledger_of s past) k r.booked).keeps;
  }

  -- as many completions are told as the step reports
  pub step_told : Remembered s w past → how_often is_completion (told (events s w x) past) ≡ how_often is_completion past + reported (answer_of s w x)
  step_told r =
      sym (ledger_tallies s (told (events s w x) past)).completions
      ∙ sym (ap (λ (l : Ledger). l.completed_count) (ledger_told s (events s w x) past))
      ∙ (step_booked s w x (ledger_of s past) k r.booked).reports
      ∙ omega (arith, (ledger_tallies s past).completions)

pub fresh_remembered : (s : Setup) → Remembered s (fresh_world s) []
unfolding LawfulAll ledger_of
fresh_remembered s = record { lawful = tt; booked = fresh_booked s }

module _ {κ} (s : Setup) (P : World → Type κ) (v : Invariant s P) where
  run_remembered : (w : World) (past : List Event) (xs : List Step) → SoundWorld s w → P w → Remembered s w past → Remembered s (ran s w xs) (history_from s w past xs)
  unfolding ran history_from
  run_remembered w past [] k p r = r
  run_remembered w past (x ∷ xs) k p r =
      run_remembered (stepped s w x) (told (events s w x) past) xs (stepped_sound s w x k) (v.kept w x k p) (step_remembered s w x past k (v.current w k p) r)

  run_told : (w : World) (past : List Event) (xs : List Step) → SoundWorld s w → P w → Remembered s w past
      → how_often is_completion (history_from s w past xs) ≡ how_often is_completion past + reported_in (answers s w xs)
  unfolding history_from answers reported_in
  run_told w past [] k p r = omega arith
  run_told w past (x ∷ xs) k p r =
      run_told (stepped s w x) (told (events s w x) past) xs (stepped_sound s w x k) (v.kept w x k p) (step_remembered s w x past k (v.current w k p) r)
      ∙ omega (arith, step_told s w x past k r)

-- ---- in the history's words
module _ (s : Setup) (w : World) (h : List Event) (r : Remembered s w h) where
  pub adds_up : AddsUp s h
  adds_up = omega (arith, r.booked.tallies, ledger_tallies s h, open_counted s h)

  pub values_are_last : (o : ℕ) → o < s.objects → value_at w.tables o ≡ last_completed o h
  values_are_last o p = r.booked.values o p ∙ ledger_posted s h r.lawful o

  pub writes_are_open : (o : ℕ) → o < s.objects → standing_write w.tables o ≡ open_in o h
  writes_are_open o p = r.booked.writes o p ∙ ledger_open s h o

pub history_agrees {κ} : (s : Setup) (P : World → Type κ) → Invariant s P → in_range s ≡ true → (xs : List Step)
    → HistoryAgrees s xs (answers s (fresh_world s) xs) (ran s (fresh_world s) xs)
unfolding how_often
history_agrees s P v i xs =
    let k = fresh_sound s i in
    let r = run_remembered s P v (fresh_world s) [] xs k v.fresh (fresh_remembered s) in
    let w = ran s (fresh_world s) xs in
    let h = history s xs in
    record {
      answered = answers_told s xs;
      shows = shows_last s h r.lawful;
      ends = ends_in_time s h r.lawful;
      tallies = adds_up s w h r;
      reports = omega (arith, run_told s P v (fresh_world s) [] xs k v.fresh (fresh_remembered s));
      values = values_are_last s w h r;
      writes = writes_are_open s w h r;
    }
