-- 02, A7: "Copies shown, ends of writes and 01's ledger are then judged along the line of steps from fresh to the restored state and onward, never across
-- the abandoned branch." The line is told by the steps and their answers alone.
-- Letters: s setup, q a machine, x a step, a its answer, n its number, e an entry, l a line, b the ledger's books, k the books with the saved ones.
use Rattle.std.specs.Prelude.{ℕ, ◌+◌, ◌-◌, ◌≤◌, cond, List, [], ◌∷◌, map, ◌≡◌, length, get_or}
use Rattle.laws.specs.Line.{Saved, never, state, Kept, start, saved_under, Act, go, save, back, idle, follow, lines, kept_as}
use Rattle.protocol.specs.declared.setup.Setup.{Setup}
use Rattle.protocol.specs.declared.step.Answer.{Answer}
use Rattle.protocol.specs.declared.step.Step.{Step}
use Rattle.protocol.specs.Answers.{is_refused}
use Rattle.protocol.specs.World.{World, fresh_world, ran, answers}
use Rattle.protocol.specs.Ledger.{Books, fresh_books, books_after}
use Rattle.protocol.specs.Agreement.{AgreesThroughout}
use Rattle.protocol.specs.History.{HistoryAgrees}
use Rattle.protocol.specs.Reached.{books_through}
use Rattle.protocol.specs.Saved.{Machine, names, fresh_machine, is_save, uses_name, answer_to, moved, moved_by, answers_to}

-- An accepted save saves, an accepted return goes back, a refused one does nothing. Any other step goes on, refused or not; y stands for it.
abbrev pub act_of : {Y : Type 0} → Y → Step → Answer → Act Y
act_of y x a = cond (uses_name x) (cond (is_refused a) idle (cond (is_save x) (save x.place) (back x.place))) (go y)

-- ---- the line
-- a step of the list: its number, counted from 1 over the whole list, and the answer that it got
pub record Entry : Type 0 where
  pub number : ℕ
  pub step : Step
  pub answer : Answer

unfoldable pub entries_from : Setup → Machine → ℕ → List Step → List Entry
entries_from s q n [] = []
entries_from s q n (x ∷ xs) = record { number = n; step = x; answer = answer_to s q x } ∷ entries_from s (moved s q x) (n + 1) xs

abbrev pub entries : Setup → List Step → List Entry
entries s xs = entries_from s (fresh_machine s) 1 xs

abbrev pub entry_act : Entry → Act Entry
entry_act e = act_of e e.step e.answer

-- the line of the present state, and of each saved one
abbrev pub step_lines : List Entry → Kept (List Entry)
step_lines es = lines names (map entry_act es)

abbrev pub present_line : Setup → List Step → List Entry
present_line s xs = (step_lines (entries s xs)).now

abbrev pub saved_line : Setup → List Step → ℕ → Saved (List Entry)
saved_line s xs n = saved_under (step_lines (entries s xs)) n

abbrev pub steps_in : List Entry → List Step
steps_in l = map (λ (e : Entry). e.step) l

abbrev pub answers_in : List Entry → List Answer
answers_in l = map (λ (e : Entry). e.answer) l

-- entry e is the step of the list that its number says, with the answer that it got there; y and b are what a place past the end reads as
pub record Listed (s : Setup) (xs : List Step) (e : Entry) : Type 0 where
  pub first : 1 ≤ e.number
  pub last : e.number ≤ length xs
  pub step : (y : Step) → get_or xs (e.number - 1) y ≡ e.step
  pub answer : (b : Answer) → get_or (answers_to s (fresh_machine s) xs) (e.number - 1) b ≡ e.answer

-- ---- the ledger
-- It is saved and restored with the state. As before it is fed only the setup and the steps: it works the gate's questions through in tables of its own.
abbrev pub own_machine : Kept Books → Machine
own_machine k = kept_as (λ (b : Books). b.world) k

unfoldable pub accounted : Setup → Kept Books → Step → Kept Books
accounted s k x = follow (books_after s) k (act_of x x (answer_to s (own_machine k) x))

unfoldable pub accounts_from : Setup → Kept Books → List Step → Kept Books
accounts_from s k [] = k
accounts_from s k (x ∷ xs) = accounts_from s (accounted s k x) xs

abbrev pub accounts : Setup → List Step → Kept Books
accounts s xs = accounts_from s (start names (fresh_books s)) xs

-- ---- demand 3, along a line
-- what a line makes of fresh tables and books
abbrev pub ran_by : Setup → List Entry → World
ran_by s l = ran s (fresh_world s) (steps_in l)

abbrev pub booked_by : Setup → List Entry → Books
booked_by s l = books_through s (fresh_books s) (steps_in l)

-- the line l, the state w that it leads to and the ledger b that goes with it
pub record LineAgrees (s : Setup) (l : List Entry) (w : World) (b : Books) : Type 0 where
  -- the state is what the steps of the line make of fresh tables, and the answers that they got are those of this run
  pub runs : w ≡ ran_by s l
  pub given : answers_in l ≡ answers s (fresh_world s) (steps_in l)
  -- the ledger is the line's: nothing of an abandoned branch is booked
  pub ledger : b ≡ booked_by s l
  -- "After each step of the list, the program against the ledger"
  pub agrees : AgreesThroughout s (steps_in l)
  -- the same in words about the history of the line, with the answers that its steps got in the list
  pub words : HistoryAgrees s (steps_in l) (answers_in l) w

-- what is saved under a name: a state with its line and its ledger, or none of them
unfoldable pub SavedAgrees : Setup → Saved (List Entry) → Saved World → Saved Books → Type 0
SavedAgrees s never never never = Unit {0}
SavedAgrees s never never (state b) = ⊥
SavedAgrees s never (state w) u = ⊥
SavedAgrees s (state l) never u = ⊥
SavedAgrees s (state l) (state w) never = ⊥
SavedAgrees s (state l) (state w) (state b) = LineAgrees s l w b

pub record AgreesAlong (s : Setup) (xs : List Step) : Type 0 where
  pub present : LineAgrees s (present_line s xs) (moved_by s (fresh_machine s) xs).now (accounts s xs).now
  pub saved : (n : ℕ) → SavedAgrees s (saved_line s xs n) (saved_under (moved_by s (fresh_machine s) xs) n) (saved_under (accounts s xs) n)
