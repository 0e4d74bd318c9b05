-- Demand 3 as one statement: "After each step of the list, the program against the ledger".
-- Letters: s setup, w world, t its tables, x a step, o object, v value, u latest end, l ledger, b books, n writes reported.
use Rattle.std.specs.Prelude.{ℕ, ◌+◌, ◌<◌, ◌≤◌, true, false, cond, List, [], ◌∷◌, ◌≡◌}
use Rattle.protocol.specs.declared.setup.Setup.{Setup}
use Rattle.protocol.specs.declared.step.Step.{Step}
use Rattle.protocol.specs.declared.tables.Tables.{Tables}
use Rattle.protocol.specs.Tables.{value_at, standing_at, pending_at, end_at}
use Rattle.protocol.specs.Answers.{answer_value, reported, is_shown, is_refused}
use Rattle.protocol.specs.Gate.{is_clock}
use Rattle.protocol.specs.World.{World, fresh_world, stepped, answer_of}
use Rattle.protocol.specs.Ledger.{Open, none, write, Ledger, open_count, Books, fresh_books, books_after}

-- the standing write of the server's tables, as the ledger has it
abbrev pub standing_write : Tables → ℕ → Open
standing_write t o = cond (standing_at t o) (write (pending_at t o) (end_at t o)) none

-- step x on w, against the ledger l after it; n writes were reported completed before it
pub record Agrees (s : Setup) (w : World) (n : ℕ) (x : Step) (l : Ledger) : Type 0 where
  -- "a read answered "shown" gave its object's posted value"
  pub shows : is_shown (answer_of s w x) ≡ true → answer_value (answer_of s w x) ≡ l.posted_value x.object
  -- "each object's value in the server's tables is the posted one"
  pub values : (o : ℕ) → o < s.objects → value_at (stepped s w x).tables o ≡ l.posted_value o
  -- "it has a standing write exactly where the ledger has an open one, with the same value and latest end"
  pub writes : (o : ℕ) → o < s.objects → standing_write (stepped s w x).tables o ≡ l.open_write o
  -- "after an accepted clock step to T no open write has a latest end below T"
  pub ends : is_clock x ≡ true → is_refused (answer_of s w x) ≡ false → (o v u : ℕ) → o < s.objects → l.open_write o ≡ write v u → x.clock ≤ u
  -- "the numbers of writes completed that the steps reported add up to completed"
  pub reports : n + reported (answer_of s w x) ≡ l.completed_count
  -- "accepted = completed + cut off + open"
  pub tallies : l.accepted_count ≡ l.completed_count + l.cut_off_count + open_count s l

-- the same after each step of a list, each on what the last one left, the ledger in tables of its own
unfoldable pub AgreesFrom : Setup → World → ℕ → Books → List Step → Type 0
AgreesFrom s w n b [] = Unit {0}
AgreesFrom s w n b (x ∷ xs) =
    Agrees s w n x (books_after s b x).ledger × AgreesFrom s (stepped s w x) (n + reported (answer_of s w x)) (books_after s b x) xs

-- "The tables start fresh, with no message and no copy."
abbrev pub AgreesThroughout : Setup → List Step → Type 0
AgreesThroughout s xs = AgreesFrom s (fresh_world s) 0 (fresh_books s) xs
