-- Machine, lines and ledger go together: each state is the run of its line, with the answers of the run, and the ledger saved with it is the line's.
-- Letters: s setup, q a machine, x a step, n its number, a its answer, e its entry, l a line, k the lines, b the ledger's books, c those with the saved ones.
use Rattle.std.specs.Prelude.{ℕ, suc, ◌+◌, ◌-◌, ◌<◌, ◌≤◌, Bool, true, false, cond, ◌≡◌, length, get_or}
use Rattle.std.proofs.Common.{arith, ◌∙◌}
use mathlib.Core.List.{List, [], ◌∷◌, ◌++◌, map, map-append, append_assoc, append-nil}
use Rattle.std.proofs.Math.Path.{refl, sym, ap}
use Rattle.laws.specs.Choice.{cond_keeps}
use Rattle.laws.specs.Lists.{All, all_map}
use Rattle.laws.specs.Line.{Kept, start, go, save, back, idle, follow, along, longer, kept_as, start_as, as_twice, follow_as, OfEach, each_start, each_follow, each_as, OfAct, lines_among}
use Rattle.protocol.specs.declared.setup.Setup.{Setup}
use Rattle.protocol.specs.declared.step.Answer.{Answer}
use Rattle.protocol.specs.declared.step.Step.{Step}
use Rattle.protocol.specs.Setup.{in_range}
use Rattle.protocol.specs.Answers.{is_refused}
use Rattle.protocol.specs.World.{World, fresh_world, stepped, answer_of, ran, answers}
use Rattle.protocol.specs.Ledger.{Books, fresh_books, books_after}
use Rattle.protocol.specs.Reached.{books_through}
use Rattle.protocol.proofs.Reached.{books_world, ran_on}
use Rattle.protocol.specs.Saved.{Machine, names, fresh_machine, is_save, uses_name, answer_to, moved, moved_by, answers_to}
use Rattle.protocol.specs.Line.{act_of, Entry, entries_from, entries, entry_act, step_lines, present_line, steps_in, answers_in, Listed, own_machine, accounted, accounts_from, accounts, ran_by, booked_by}
use Rattle.protocol.specs.SavedLaws.{Plain}
use Rattle.protocol.proofs.SavedLaws.{ordinary_answer, moved_follows, act_keeps, saved_sounds, moved_sound, fresh_machine_sound}
use Rattle.protocol.specs.Along.{Given, Joined}

-- ---- a line that grows by an entry
answers_snoc : (s : Setup) (w : World) (xs : List Step) (x : Step) → answers s w (xs ++ (x ∷ [])) ≡ answers s w xs ++ (answer_of s (ran s w xs) x ∷ [])
unfolding answers ran
answers_snoc s w [] x = refl
answers_snoc s w (y ∷ xs) x = ap (◌∷◌ (answer_of s w y)) (answers_snoc s (stepped s w y) xs x)

books_snoc : (s : Setup) (b : Books) (xs : List Step) (x : Step) → books_through s b (xs ++ (x ∷ [])) ≡ books_after s (books_through s b xs) x
unfolding books_through
books_snoc s b [] x = refl
books_snoc s b (y ∷ xs) x = books_snoc s (books_after s b y) xs x

module _ (s : Setup) (l : List Entry) (e : Entry) where
  ran_longer : ran_by s (longer l e) ≡ stepped s (ran_by s l) e.step
  unfolding ran
  ran_longer = ap (ran s (fresh_world s)) (map-append _ l (e ∷ [])) ∙ ran_on s (fresh_world s) (steps_in l) (e.step ∷ [])

  booked_longer : booked_by s (longer l e) ≡ books_after s (booked_by s l) e.step
  booked_longer = ap (books_through s (fresh_books s)) (map-append _ l (e ∷ [])) ∙ books_snoc s (fresh_books s) (steps_in l) e.step

  given_longer : e.answer ≡ answer_of s (ran_by s l) e.step → Given s l → Given s (longer l e)
  given_longer h g = map-append (λ (e : Entry). e.answer) l (e ∷ []) ∙ (λ i. g i ++ (h i ∷ [])) ∙ sym grown
    where
      grown : answers s (fresh_world s) (steps_in (longer l e)) ≡ answers s (fresh_world s) (steps_in l) ++ (answer_of s (ran_by s l) e.step ∷ [])
      grown = ap (answers s (fresh_world s)) (map-append _ l (e ∷ [])) ∙ answers_snoc s (fresh_world s) (steps_in l) e.step

-- the same act, whatever stands for the step
alike : {A Y Z : Type 0} (f : A → Y → A) (g : A → Z → A) (k : Kept A) (u r v : Bool) (n : ℕ) (y : Y) (z : Z) → f k.now y ≡ g k.now z
    → follow f k (cond u (cond r idle (cond v (save n) (back n))) (go y)) ≡ follow g k (cond u (cond r idle (cond v (save n) (back n))) (go z))
alike f g k true true v n y z h = refl
alike f g k true false true n y z h = refl
alike f g k true false false n y z h = refl
alike f g k false r v n y z h = ap (λ (a : _). record { now = a; saved = k.saved }) h

-- ---- together
module _ (s : Setup) (i : in_range s ≡ true) where
  fresh_joined : Joined s (fresh_machine s) (start names []) (start names (fresh_books s))
  unfolding ran books_through answers
  fresh_joined = record {
    sound = fresh_machine_sound s i;
    runs = sym (start_as (ran_by s) names []);
    given = each_start (Given s) names [] refl;
    books = sym (start_as (booked_by s) names []);
  }

  module _ (q : Machine) (k : Kept (List Entry)) (c : Kept Books) (x : Step) (n : ℕ) (h : Joined s q k c) where
    entry : Entry
    entry = record { number = n; step = x; answer = answer_to s q x }

    runs_on : moved s q x ≡ kept_as (ran_by s) (follow longer k (entry_act entry))
    unfolding entry
    runs_on =
        moved_follows s (λ w (e : Entry). stepped s w e.step) q x entry refl (saved_sounds s i q h.sound)
        ∙ ap (λ (r : Machine). follow (λ w (e : Entry). stepped s w e.step) r (entry_act entry)) h.runs
        ∙ sym (follow_as (ran_by s) longer (λ w (e : Entry). stepped s w e.step) (ran_longer s) k (entry_act entry))

    given_on : OfEach (Given s) (follow longer k (entry_act entry))
    unfolding entry
    given_on =
        each_follow (Given s) longer k (entry_act entry)
        (act_keeps (Given s) longer k entry x (answer_to s q x)
        (λ u. given_longer s k.now entry (ordinary_answer s q x u (saved_sounds s i q h.sound) ∙ ap (λ (r : Machine). answer_of s r.now x) h.runs)))
        h.given

    own : own_machine c ≡ q
    own =
        ap own_machine h.books
        ∙ as_twice (booked_by s) (λ (b : Books). b.world) (ran_by s) (λ l. books_world s (steps_in l) (fresh_books s)) k
        ∙ sym h.runs

    books_on : accounted s c x ≡ kept_as (booked_by s) (follow longer k (entry_act entry))
    unfolding accounted entry
    books_on =
        ap (λ (r : Machine). follow (books_after s) c (act_of x x (answer_to s r x))) own
        ∙ ap (λ (r : Kept Books). follow (books_after s) r (act_of x x (answer_to s q x))) h.books
        ∙ alike (books_after s) (λ b (e : Entry). books_after s b e.step) (kept_as (booked_by s) k) (uses_name x) (is_refused (answer_to s q x)) (is_save x) x.place x entry refl
        ∙ sym (follow_as (booked_by s) longer (λ b (e : Entry). books_after s b e.step) (booked_longer s) k (entry_act entry))

    join : Joined s (moved s q x) (follow longer k (entry_act entry)) (accounted s c x)
    join = record { sound = moved_sound s i q x h.sound; runs = runs_on; given = given_on; books = books_on }

  joined : (xs : List Step) (n : ℕ) (q : Machine) (k : Kept (List Entry)) (c : Kept Books) → Joined s q k c
      → Joined s (moved_by s q xs) (along longer k (map entry_act (entries_from s q n xs))) (accounts_from s c xs)
  unfolding moved_by along entries_from accounts_from entry
  joined [] n q k c h = h
  joined (x ∷ xs) n q k c h = joined xs (n + 1) (moved s q x) (follow longer k (entry_act (entry q k c x n h))) (accounted s c x) (join q k c x n h)

  pub run_joined : (xs : List Step) → Joined s (moved_by s (fresh_machine s) xs) (step_lines (entries s xs)) (accounts s xs)
  run_joined xs = joined xs 1 (fresh_machine s) (start names []) (start names (fresh_books s)) fresh_joined

  -- what holds of every state that a run reaches holds of the present state and of every saved one
  pub each_reached : (P : World → Type 0) → ((ys : List Step) → P (ran s (fresh_world s) ys)) → (xs : List Step) → OfEach P (moved_by s (fresh_machine s) xs)
  each_reached P p xs = rw (run_joined xs).runs (each_as P (ran_by s) (λ l. p (steps_in l)) (step_lines (entries s xs)))

-- ---- the entries of a line are steps of the list, with their answers
record ListedFrom (s : Setup) (q : Machine) (n : ℕ) (xs : List Step) (e : Entry) : Type 0 where
  first : n ≤ e.number
  last : e.number < n + length xs
  step : (y : Step) → get_or xs (e.number - n) y ≡ e.step
  answer : (b : Answer) → get_or (answers_to s q xs) (e.number - n) b ≡ e.answer

none_before : (n : ℕ) → n - n ≡ 0
none_before n = omega arith

one_before : (n k : ℕ) → n + 1 ≤ k → k - n ≡ suc (k - (n + 1))
one_before n k h = omega arith

listed_later : (s : Setup) (q : Machine) (n : ℕ) (x : Step) (xs : List Step) (e : Entry) → ListedFrom s (moved s q x) (n + 1) xs e → ListedFrom s q n (x ∷ xs) e
unfolding answers_to
listed_later s q n x xs e h = record {
  first = omega (arith, h.first);
  last = omega (arith, h.last);
  step = λ y. rw (one_before n e.number h.first) (h.step y);
  answer = λ b. rw (one_before n e.number h.first) (h.answer b);
}

listed_from : (s : Setup) (q : Machine) (n : ℕ) (xs : List Step) → All (ListedFrom s q n xs) (entries_from s q n xs)
unfolding All entries_from answers_to
listed_from s q n [] = tt
listed_from s q n (x ∷ xs) = (
  record { first = omega arith; last = omega arith; step = λ y. rw (none_before n); answer = λ b. rw (none_before n) },
  all_map (listed_later s q n x xs) (entries_from s (moved s q x) (n + 1) xs) (listed_from s (moved s q x) (n + 1) xs),
)

-- what holds of every step of the list, of every one in a line
among : (P : Entry → Type 0) (es : List Entry) → All P es → All (OfAct P) (map entry_act es)
unfolding All
among P [] h = tt
among P (e ∷ es) h = (act, among P es h.1)
  where
    act : OfAct P (entry_act e)
    act =
        cond_keeps (OfAct P) (uses_name e.step) (λ _.
        cond_keeps (OfAct P) (is_refused e.answer) (λ _. tt) (λ _.
        cond_keeps (OfAct P) (is_save e.step) (λ _. tt) (λ _. tt))) (λ _. h.0)

pub line_listed : (s : Setup) (xs : List Step) → OfEach (All (Listed s xs)) (step_lines (entries s xs))
line_listed s xs = lines_among (Listed s xs) names _ (among (Listed s xs) (entries s xs) (all_map whole (entries s xs) (listed_from s (fresh_machine s) 1 xs)))
  where
    whole : (e : Entry) → ListedFrom s (fresh_machine s) 1 xs e → Listed s xs e
    whole e h = record { first = h.first; last = omega (arith, h.last); step = h.step; answer = h.answer }

-- ---- a list without saves and returns is its own line
pub steps_listed : (s : Setup) (q : Machine) (n : ℕ) (xs : List Step) → steps_in (entries_from s q n xs) ≡ xs
unfolding entries_from
steps_listed s q n [] = refl
steps_listed s q n (x ∷ xs) = ap (◌∷◌ x) (steps_listed s (moved s q x) (n + 1) xs)

pub answers_listed : (s : Setup) (q : Machine) (n : ℕ) (xs : List Step) → answers_in (entries_from s q n xs) ≡ answers_to s q xs
unfolding entries_from answers_to
answers_listed s q n [] = refl
answers_listed s q n (x ∷ xs) = ap (◌∷◌ (answer_to s q x)) (answers_listed s (moved s q x) (n + 1) xs)

plain_from : (s : Setup) (q : Machine) (n : ℕ) (xs : List Step) (k : Kept (List Entry)) → Plain xs
    → (along longer k (map entry_act (entries_from s q n xs))).now ≡ k.now ++ entries_from s q n xs
unfolding All along entries_from
plain_from s q n [] k p = sym (append-nil k.now)
plain_from s q n (x ∷ xs) k p =
    let e : Entry = record { number = n; step = x; answer = answer_to s q x } in
    rw p.0 (plain_from s (moved s q x) (n + 1) xs (follow longer k (go e)) p.1 ∙ append_assoc k.now (e ∷ []) (entries_from s (moved s q x) (n + 1) xs))

pub plain_line : (s : Setup) (xs : List Step) → Plain xs → steps_in (present_line s xs) ≡ xs
plain_line s xs p = ap steps_in (plain_from s (fresh_machine s) 1 xs (start names []) p) ∙ steps_listed s (fresh_machine s) 1 xs
