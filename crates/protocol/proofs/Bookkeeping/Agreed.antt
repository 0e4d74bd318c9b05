-- Demand 3, all of it but one thing: that a client which may show its copy has the server's value. That is asked of an invariant P of worlds.
-- Letters: s setup, w world, k that it is sound, t tables, x a step, c a copy, r a request, g a decision or what is recorded of it, d client, o
-- object, y value, u latest end, n writes reported before, l and m ledgers, h that one is booked, b what a step books, v what is asked of P; the
-- others are proofs.
use Rattle.std.specs.Prelude.{ℕ, ◌+◌, ◌<◌, ◌≤◌, Bool, true, false, cond, ◌≡◌, refl}
use Rattle.std.proofs.Common.{arith, ⊎_elim, sym, ap, ◌∙◌, eqb-true}
use mathlib.Core.List.{List, [], ◌∷◌}
use Rattle.laws.specs.Choice.{cond_keeps, true_or_false, not_both}
use Rattle.protocol.specs.declared.records.Copy.{Copy}
use Rattle.protocol.specs.declared.setup.Setup.{Setup}
use Rattle.protocol.specs.declared.step.Decision.{Decision}
use Rattle.protocol.specs.declared.step.Step.{Step}
use Rattle.protocol.specs.declared.tables.Tables.{Tables}
use Rattle.protocol.specs.Setup.{in_range}
use Rattle.protocol.specs.Tables.{value_at, standing_at, pending_at, end_at}
use Rattle.protocol.proofs.Leases.{not_over}
use Rattle.protocol.specs.Writes.{settled, clock_staged}
use Rattle.protocol.specs.Client.{showable}
use Rattle.protocol.specs.Answers.{answer_value, reported, is_shown, is_refused}
use Rattle.protocol.specs.Gate.{is_clock}
use Rattle.protocol.specs.Decide.{read_decided}
use Rattle.protocol.specs.World.{World, fresh_world, stepped, answer_of}
use Rattle.protocol.specs.Ledger.{none, write, accepts, events, Ledger, empty_ledger, book_all, Books, books_after}
use Rattle.protocol.specs.Agreement.{standing_write, Agrees, AgreesFrom, AgreesThroughout}
use Rattle.protocol.proofs.Ranges.{ranges}
use Rattle.protocol.specs.Soundness.StepCases.{copy_of, request_of}
use Rattle.protocol.proofs.Soundness.StepCases.{accepted, setup_in_range, tables_after, accepted_answer_law, refused_answer, refused_keeps, clock_performed, read_performed}
use Rattle.protocol.proofs.Soundness.Answered.{accepted_of, refused_is_refused}
use Rattle.protocol.specs.Soundness.Question.{SoundWorld}
use Rattle.protocol.proofs.Soundness.Question.{stepped_sound, fresh_sound}
use Rattle.protocol.specs.Bookkeeping.Booked.{Booked}
use Rattle.protocol.proofs.Bookkeeping.Booked.{fresh_booked}
use Rattle.protocol.proofs.Bookkeeping.Settled.{clock_ended}
use Rattle.protocol.proofs.Bookkeeping.StepsBooked.{performed_recorded}
use Rattle.protocol.proofs.Bookkeeping.Shown.{shown_read}
use Rattle.protocol.specs.Bookkeeping.Agreed.{ReadsCurrent, BookedStep, Invariant}

-- what an open write says of the tables
pub open_stands : (standing : Bool) (pending end y u : ℕ) → cond standing (write pending end) none ≡ write y u → (standing ≡ true) × (end ≡ u)
open_stands true pending end y u e = (refl, cc)
open_stands false pending end y u e = absurd (let f : ◌≡◌ {A = ℕ} 0 1 = cc in omega arith)

read_tables : (s : Setup) (t : Tables) (c : Copy) (d o : ℕ) → (read_decided s t c d o).outcome.tables ≡ t
unfolding read_decided
read_tables s t c d o = cond_keeps (λ (g : Decision). g.outcome.tables ≡ t) (showable s t c d o) (λ e. refl) (λ e. refl)

module _ (s : Setup) (w : World) (x : Step) (l : Ledger) where
  accepted_step : SoundWorld s w → Booked s w.tables l → accepts s w x ≡ true → BookedStep s w x l (book_all s l (events s w x))
  unfolding events
  accepted_step k h e =
      let a = accepted s w x e in
      let g =
      performed_recorded s (ranges s (setup_in_range a)) w.tables k.shape.tables k.bounds.tables (copy_of s w x) (request_of s w x) l h _ x a in
      rw e (record { keeps = rw (tables_after s w x e) g.booked; reports = rw (accepted_answer_law s w x e) g.reports })

  refused_step : Booked s w.tables l → accepts s w x ≡ false → BookedStep s w x l (book_all s l (events s w x))
  unfolding events book_all
  refused_step h e = rw e (record { keeps = rw (refused_keeps s w x e) h; reports = rw (refused_answer s w x e) (omega arith) })

  -- every step keeps the ledger and the tables together
  pub step_booked : SoundWorld s w → Booked s w.tables l → BookedStep s w x l (book_all s l (events s w x))
  step_booked k h = ⊎_elim (accepted_step k h) (refused_step h) (true_or_false (accepts s w x))

  -- after a clock step
  step_ends : is_clock x ≡ true → is_refused (answer_of s w x) ≡ false
      → (o y u : ℕ) → o < s.objects → standing_write (stepped s w x).tables o ≡ write y u → x.clock ≤ u
  step_ends e f o y u p i =
      let a = accepted_of s w x f in
      let q = tables_after s w x a ∙ ap (λ (g : Decision). g.outcome.tables) (clock_performed s w.tables (copy_of s w x) (request_of s w x) x (eqb-true _ 1 e)) in
      let t = (settled s (clock_staged s w.tables x.clock)).tables in
      let j = open_stands (standing_at t o) (pending_at t o) (end_at t o) y u (sym (ap (λ (z : Tables). standing_write z o) q) ∙ i) in
      omega (arith, not_over x.clock (end_at t o) ((clock_ended s x.clock w.tables).ends o p j.0), j.1)

  -- ---- what a read shows
  read_leaves : x.kind ≡ 2 → accepts s w x ≡ true → (stepped s w x).tables ≡ w.tables
  read_leaves f e =
      tables_after s w x e
      ∙ ap (λ (g : Decision). g.outcome.tables) (read_performed s w.tables (copy_of s w x) (request_of s w x) x f)
      ∙ read_tables s w.tables (copy_of s w x) x.client x.object

  step_shows : SoundWorld s w → Booked s w.tables l → ReadsCurrent s w
      → is_shown (answer_of s w x) ≡ true → answer_value (answer_of s w x) ≡ (book_all s l (events s w x)).posted_value x.object
  step_shows k h f e =
      let q = shown_read s w x e in
      q.value
      ∙ f x.client x.object q.client q.object q.shows
      ∙ sym (ap (λ (t : Tables). value_at t x.object) (read_leaves q.kind q.takes))
      ∙ (step_booked k h).keeps.values x.object q.object

-- ---- one step, against the ledger after it
pub step_agrees : (s : Setup) (w : World) (x : Step) (n : ℕ) (l : Ledger) → SoundWorld s w → Booked s w.tables l → n ≡ l.completed_count → ReadsCurrent s w
    → Agrees s w n x (book_all s l (events s w x))
step_agrees s w x n l k h e f =
    let b = step_booked s w x l k h in
    record {
      shows = step_shows s w x l k h f;
      values = b.keeps.values;
      writes = b.keeps.writes;
      ends = λ i j o y u p q. step_ends s w x l i j o y u p (b.keeps.writes o p ∙ q);
      reports = omega (arith, e, b.reports);
      tallies = b.keeps.tallies;
    }

-- the ledger's books: its own tables are worked through as the program's are
abbrev books_of : World → Ledger → Books
books_of w l = record { world = w; ledger = l }

module _ {κ} (s : Setup) (P : World → Type κ) (v : Invariant s P) where
  agrees_from : (w : World) (n : ℕ) (l : Ledger) (xs : List Step) → SoundWorld s w → P w → Booked s w.tables l → n ≡ l.completed_count
      → AgreesFrom s w n (books_of w l) xs
  unfolding AgreesFrom books_after
  agrees_from w n l [] k i h e = tt
  agrees_from w n l (x ∷ xs) k i h e =
      let b = step_booked s w x l k h in
      (step_agrees s w x n l k h e (v.current w k i), agrees_from (stepped s w x) (n + reported (answer_of s w x)) (book_all s l (events s w x)) xs (stepped_sound s w x k) (v.kept w x k i) b.keeps (omega (arith, e, b.reports)))

  agrees_in_range : in_range s ≡ true → (xs : List Step) → AgreesThroughout s xs
  agrees_in_range i xs = agrees_from (fresh_world s) 0 empty_ledger xs (fresh_sound s i) v.fresh (fresh_booked s) refl

-- ---- out of range every step is refused, and nothing happens
module _ (s : Setup) (i : in_range s ≡ false) where
  never_accepted : (w : World) (x : Step) → accepts s w x ≡ false
  never_accepted w x =
      ⊎_elim (λ e. not_both (setup_in_range (accepted s w x e)) i) (λ e. e) (true_or_false (accepts s w x))

  refused_agrees : (w : World) (x : Step) (n : ℕ) (l : Ledger) → Booked s w.tables l → n ≡ l.completed_count → Agrees s w n x (book_all s l (events s w x))
  refused_agrees w x n l h e =
      let a = never_accepted w x in
      let b = refused_step s w x l h a in
      let f = refused_is_refused s w x a in
      record {
        shows = λ i. not_both i (ap is_shown (refused_answer s w x a));
        values = b.keeps.values;
        writes = b.keeps.writes;
        ends = λ i j o y u p q. not_both f j;
        reports = omega (arith, e, b.reports);
        tallies = b.keeps.tallies;
      }

  out_of_range_from : (w : World) (n : ℕ) (l : Ledger) (xs : List Step) → Booked s w.tables l → n ≡ l.completed_count → AgreesFrom s w n (books_of w l) xs
  unfolding AgreesFrom books_after
  out_of_range_from w n l [] h e = tt
  out_of_range_from w n l (x ∷ xs) h e =
      let b = refused_step s w x l h (never_accepted w x) in
      (refused_agrees w x n l h e, out_of_range_from (stepped s w x) (n + reported (answer_of s w x)) (book_all s l (events s w x)) xs b.keeps (omega (arith, e, b.reports)))

  agrees_out_of_range : (xs : List Step) → AgreesThroughout s xs
  agrees_out_of_range xs = out_of_range_from (fresh_world s) 0 empty_ledger xs (fresh_booked s) refl

-- demand 3 for every setup whatever and every list of steps, from such an invariant where the setup is in range
pub agrees_throughout {κ} : (s : Setup) (P : World → Type κ) → (in_range s ≡ true → Invariant s P) → (xs : List Step) → AgreesThroughout s xs
agrees_throughout s P v xs =
    ⊎_elim (λ i. agrees_in_range s P (v i) i xs) (λ i. agrees_out_of_range s i xs) (true_or_false (in_range s))
