-- The history of a run is the events of its steps, told newest first. Demand 3 once more, in functions of the history alone.
-- Letters: s setup, w world, t its tables, x a step, a its answer, rs all answers, h a history, e an event, p a test of events, d client, o and k objects, v value, u
-- latest end, T clock.
pub mod Lawful
use Rattle.std.specs.Prelude.{ℕ, ◌+◌, ◌<◌, ◌≤◌, Bool, true, false, cond, ◌||◌, List, [], ◌∷◌, ◌++◌, ◌≡◌, eqb}
use Rattle.laws.specs.Loop.{count_from}
use Rattle.protocol.specs.declared.setup.Setup.{Setup}
use Rattle.protocol.specs.declared.step.Answer.{Answer}
use Rattle.protocol.specs.declared.step.Step.{Step}
use Rattle.protocol.specs.declared.tables.Tables.{Tables}
use Rattle.protocol.specs.Tables.{value_at}
use Rattle.protocol.specs.Writes.{latest_end}
use Rattle.protocol.specs.Answers.{answer_value, reported, is_shown, is_refused}
use Rattle.protocol.specs.Gate.{is_clock, is_write, is_restart_server}
use Rattle.protocol.specs.World.{World, fresh_world, stepped}
use Rattle.protocol.specs.Ledger.{Event, acceptance, completion, server_restart, showing, clock_step, events, Open, none, write, is_open}
use Rattle.protocol.specs.Agreement.{standing_write}

-- events told on top of those told before
unfoldable pub told : List Event → List Event → List Event
told [] past = past
told (e ∷ es) past = told es (e ∷ past)

unfoldable pub history_from : Setup → World → List Event → List Step → List Event
history_from s w past [] = past
history_from s w past (x ∷ xs) = history_from s (stepped s w x) (told (events s w x) past) xs

-- of a run from fresh tables
abbrev pub history : Setup → List Step → List Event
history s xs = history_from s (fresh_world s) [] xs

-- the value of the write to o that was accepted last, 0 where none was
unfoldable pub last_accepted : ℕ → List Event → ℕ
last_accepted o [] = 0
last_accepted o (acceptance k v _ ∷ past) = cond (eqb o k) v (last_accepted o past)
last_accepted o (completion _ ∷ past) = last_accepted o past
last_accepted o (server_restart ∷ past) = last_accepted o past
last_accepted o (showing _ _ _ ∷ past) = last_accepted o past
last_accepted o (clock_step _ ∷ past) = last_accepted o past

-- the value of the write to o that was completed last, 0 where none was: it is the one that was accepted last before
unfoldable pub last_completed : ℕ → List Event → ℕ
last_completed o [] = 0
last_completed o (acceptance _ _ _ ∷ past) = last_completed o past
last_completed o (completion k ∷ past) = cond (eqb o k) (last_accepted o past) (last_completed o past)
last_completed o (server_restart ∷ past) = last_completed o past
last_completed o (showing _ _ _ ∷ past) = last_completed o past
last_completed o (clock_step _ ∷ past) = last_completed o past

-- the write to o that was accepted and not completed since, with no restart since
unfoldable pub open_in : ℕ → List Event → Open
open_in o [] = none
open_in o (acceptance k v u ∷ past) = cond (eqb o k) (write v u) (open_in o past)
open_in o (completion k ∷ past) = cond (eqb o k) none (open_in o past)
open_in o (server_restart ∷ past) = none
open_in o (showing _ _ _ ∷ past) = open_in o past
open_in o (clock_step _ ∷ past) = open_in o past

abbrev pub still_open : Setup → List Event → ℕ
still_open s h = count_from (λ (o : ℕ). is_open (open_in o h)) 0 s.objects

-- how many writes were cut off: at each restart those that were open then
unfoldable pub cut_offs : Setup → List Event → ℕ
cut_offs s [] = 0
cut_offs s (acceptance _ _ _ ∷ past) = cut_offs s past
cut_offs s (completion _ ∷ past) = cut_offs s past
cut_offs s (server_restart ∷ past) = still_open s past + cut_offs s past
cut_offs s (showing _ _ _ ∷ past) = cut_offs s past
cut_offs s (clock_step _ ∷ past) = cut_offs s past

-- how often something happened
unfoldable pub how_often : (Event → Bool) → List Event → ℕ
how_often p [] = 0
how_often p (e ∷ past) = cond (p e) 1 0 + how_often p past

abbrev pub is_acceptance : Event → Bool
is_acceptance (acceptance _ _ _) = true
is_acceptance (completion _) = false
is_acceptance server_restart = false
is_acceptance (showing _ _ _) = false
is_acceptance (clock_step _) = false

abbrev pub is_completion : Event → Bool
is_completion (acceptance _ _ _) = false
is_completion (completion _) = true
is_completion server_restart = false
is_completion (showing _ _ _) = false
is_completion (clock_step _) = false

abbrev pub is_completion_of : ℕ → Event → Bool
is_completion_of o (acceptance _ _ _) = false
is_completion_of o (completion k) = eqb o k
is_completion_of o server_restart = false
is_completion_of o (showing _ _ _) = false
is_completion_of o (clock_step _) = false

-- whether a write to o was cut off since it was accepted: a restart came, and it was not completed before
unfoldable pub is_cut_off : ℕ → List Event → Bool
is_cut_off o [] = false
is_cut_off o (acceptance _ _ _ ∷ past) = is_cut_off o past
is_cut_off o (completion _ ∷ past) = is_cut_off o past
is_cut_off o (server_restart ∷ past) = eqb (how_often (is_completion_of o) past) 0 || is_cut_off o past
is_cut_off o (showing _ _ _ ∷ past) = is_cut_off o past
is_cut_off o (clock_step _ ∷ past) = is_cut_off o past

-- what the steps of a run reported, together
unfoldable pub reported_in : List Answer → ℕ
reported_in [] = 0
reported_in (a ∷ rest) = reported a + reported_in rest

-- what an accepted step is told as by itself: a clock step, a write with its latest end by the tables before it, a restart of the server
abbrev pub step_tells : Setup → Tables → Step → List Event
step_tells s t x =
    cond (is_clock x) (clock_step x.clock ∷ [])
    (cond (is_write x) (acceptance x.object x.value (latest_end s t x.object) ∷ [])
    (cond (is_restart_server x) (server_restart ∷ []) []))

-- what the answer to a step tells: nothing where it was refused, else what it was shown, else what it is by itself
abbrev pub answer_tells : Setup → Tables → Step → Answer → List Event
answer_tells s t x a = cond (is_refused a) [] (cond (is_shown a) (showing x.client x.object (answer_value a) ∷ []) (step_tells s t x))

-- what the answers to the steps of a run tell, in their order
unfoldable pub answers_tell : Setup → World → List Step → List Answer → List Event
answers_tell s w [] _ = []
answers_tell s w (_ ∷ _) [] = []
answers_tell s w (x ∷ xs) (a ∷ rest) = answer_tells s w.tables x a ++ answers_tell s (stepped s w x) xs rest

-- a history without its completions, oldest first
unfoldable pub uncompleted : List Event → List Event
uncompleted [] = []
uncompleted (e ∷ past) = uncompleted past ++ cond (is_completion e) [] (e ∷ [])

-- ---- what demand 3 says of a history h

-- a value shown is that of the write completed last before
abbrev pub ShowsLast : List Event → Type 0
ShowsLast h = (later before : List Event) (d o v : ℕ) → h ≡ later ++ (showing d o v ∷ before) → v ≡ last_completed o before

-- a write that is not cut off is completed before the clock passes its latest end
abbrev pub EndsInTime : List Event → Type 0
EndsInTime h =
    (later between older : List Event) (T o v u : ℕ) → h ≡ later ++ (clock_step T ∷ (between ++ (acceptance o v u ∷ older))) → u < T
    → is_cut_off o between ≡ false → 1 ≤ how_often (is_completion_of o) between

-- "accepted = completed + cut off + open"
abbrev pub AddsUp : Setup → List Event → Type 0
AddsUp s h = how_often is_acceptance h ≡ how_often is_completion h + cut_offs s h + still_open s h

-- together, of steps from fresh tables on, the answers to them and the world left after them
pub record HistoryAgrees (s : Setup) (xs : List Step) (rs : List Answer) (last : World) : Type 0 where
  -- each read that was shown, and each clock step, write and restart of the server that was not refused, is told in its turn; besides these only
  -- completions are
  pub answered : answers_tell s (fresh_world s) xs rs ≡ uncompleted (history s xs)
  pub shows : ShowsLast (history s xs)
  pub ends : EndsInTime (history s xs)
  pub tallies : AddsUp s (history s xs)
  -- "the numbers of writes completed that the steps reported add up to completed"
  pub reports : reported_in rs ≡ how_often is_completion (history s xs)
  -- each object's value in the server's tables is that of the write completed last, and the standing write is the one still open
  pub values : (o : ℕ) → o < s.objects → value_at last.tables o ≡ last_completed o (history s xs)
  pub writes : (o : ℕ) → o < s.objects → standing_write last.tables o ≡ open_in o (history s xs)
