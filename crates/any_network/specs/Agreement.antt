-- What demand 3 says over any network: of each move against the ledger; of the history of a run, in words; and the same of a fleet of halves.
-- Letters: s setup, n a net, f a fleet, y a move, ys moves, a an answer, rs all answers, b the ledger's books, k writes reported before, h a history, e what
-- the answers tell, t the server's tables, d client, o object, T clock.
use Rattle.std.specs.Prelude.{ℕ, ◌+◌, ◌<◌, ◌≤◌, true, List, [], ◌∷◌, ◌++◌, ◌≡◌}
use Rattle.protocol.specs.declared.setup.Setup.{Setup}
use Rattle.protocol.specs.declared.step.Answer.{Answer}
use Rattle.protocol.specs.declared.tables.Tables.{Tables}
use Rattle.protocol.specs.Tables.{value_at}
use Rattle.protocol.specs.Answers.{reported}
use Rattle.protocol.specs.Ledger.{Event, Ledger, empty_ledger, book_all}
use Rattle.protocol.specs.Agreement.{Agrees, standing_write}
use Rattle.protocol.specs.History.{told, answer_tells, uncompleted, ShowsLast, EndsInTime, AddsUp, reported_in, how_often, is_completion, last_completed, open_in}
use Rattle.any_network.specs.Network.{Net, fresh_net, Move, found, step_of, moved, moved_all, answer_to, answers_to, events_of}
use Rattle.any_network.specs.Halves.{tables_for, copy_in, client_to, client_shows}
use Rattle.any_network.specs.Fleet.{Fleet, fresh_fleet, fleet_moved, fleet_moved_all, fleet_answers, fleet_history}

-- ---- against the ledger, which "works the rules above and the gate's questions below through" on a net of its own
pub record NetBooks : Type 0 where
  pub net : Net
  pub ledger : Ledger

abbrev pub fresh_books : Setup → NetBooks
fresh_books s = record { net = fresh_net s; ledger = empty_ledger }

unfoldable pub books_after : Setup → NetBooks → Move → NetBooks
books_after s b y = record { net = moved s b.net y; ledger = book_all s b.ledger (events_of s b.net y) }

-- "After each step of the list, the program against the ledger": after each move, what `protocol` says of each step
unfoldable pub AgreesFrom : Setup → Net → ℕ → NetBooks → List Move → Type 0
AgreesFrom s n k b [] = Unit {0}
AgreesFrom s n k b (y ∷ ys) =
    Agrees s (found n y) k (step_of y) (books_after s b y).ledger × AgreesFrom s (moved s n y) (k + reported (answer_to s n y)) (books_after s b y) ys

abbrev pub AgreesThroughout : Setup → List Move → Type 0
AgreesThroughout s ys = AgreesFrom s (fresh_net s) 0 (fresh_books s) ys

-- ---- in words: of a history, of what the answers tell of it, of the answers, and of the server's tables at the end
pub record InWords (s : Setup) (h e : List Event) (rs : List Answer) (t : Tables) : Type 0 where
  -- each read that was shown, and each clock step, write and restart of the server that was not refused, is told in its turn; besides these only
  -- completions are
  pub answered : e ≡ uncompleted h
  -- a value shown is that of the write completed last before
  pub shows : ShowsLast h
  -- a write that is not cut off is completed before the clock passes its latest end
  pub ends : EndsInTime h
  -- "accepted = completed + cut off + open"
  pub tallies : AddsUp s h
  -- "the numbers of writes completed that the steps reported add up to completed"
  pub reports : reported_in rs ≡ how_often is_completion h
  -- each object's value is that of the write completed last, and the standing write is the one still open
  pub values : (o : ℕ) → o < s.objects → value_at t o ≡ last_completed o h
  pub writes : (o : ℕ) → o < s.objects → standing_write t o ≡ open_in o h

-- ---- of a net
unfoldable pub history_from : Setup → Net → List Event → List Move → List Event
history_from s n past [] = past
history_from s n past (y ∷ ys) = history_from s (moved s n y) (told (events_of s n y) past) ys

abbrev pub history : Setup → List Move → List Event
history s ys = history_from s (fresh_net s) [] ys

-- what the answers to the moves tell, in their order: a write has its latest end by the tables before the move
unfoldable pub answers_tell : Setup → Net → List Move → List Answer → List Event
answers_tell s n [] _ = []
answers_tell s n (_ ∷ _) [] = []
answers_tell s n (y ∷ ys) (a ∷ rest) = answer_tells s n.world.tables (step_of y) a ++ answers_tell s (moved s n y) ys rest

abbrev pub NetAgrees : Setup → List Move → Type 0
NetAgrees s ys =
    let rs = answers_to s (fresh_net s) ys in
    InWords s (history s ys) (answers_tell s (fresh_net s) ys rs) rs (moved_all s (fresh_net s) ys).world.tables

-- ---- of a fleet, naming nothing but halves: a write has its latest end by the server's half before the move
unfoldable pub fleet_tells : Setup → Fleet → List Move → List Answer → List Event
fleet_tells s f [] _ = []
fleet_tells s f (_ ∷ _) [] = []
fleet_tells s f (y ∷ ys) (a ∷ rest) = answer_tells s (tables_for f.server) (step_of y) a ++ fleet_tells s (fleet_moved s f y) ys rest

abbrev pub HalvesAgree : Setup → List Move → Type 0
HalvesAgree s ys =
    let rs = fleet_answers s (fresh_fleet s) ys in
    InWords s (fleet_history s ys) (fleet_tells s (fresh_fleet s) ys rs) rs (tables_for (fleet_moved_all s (fresh_fleet s) ys).server)

-- A client may read by any time T that is not before the server's clock. Of a client's rules only a read looks at the time, so it needs no clock that is set
-- to the server's.
abbrev pub ShowsAhead : Setup → List Move → Type 0
ShowsAhead s ys =
    let f = fleet_moved_all s (fresh_fleet s) ys in
    (d o T : ℕ) → d < s.clients → o < s.objects → f.server.clock ≤ T → client_shows s (client_to (f.clients d) T) o ≡ true
    → (copy_in (f.clients d) o).value ≡ last_completed o (fleet_history s ys)
