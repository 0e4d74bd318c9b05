-- 01, "The ledger of a run": fed only the setup and the steps, it works the rules through in tables of its own.
-- Letters: s setup, w world, t its tables, x a step, i its place, c a copy, g what is staged, d client, o object, v value, u latest end, T clock,
-- e an event, l ledger, b books.
use Rattle.std.specs.Prelude.{ℕ, ◌+◌, Bool, true, false, cond, List, [], ◌∷◌, ◌++◌, map, eqb, get_or}
use Rattle.laws.specs.Loop.{count_from}
use Rattle.laws.specs.Updated.{updated}
use Rattle.protocol.specs.declared.message.Kind.{Kind}
use Rattle.protocol.specs.declared.message.Kind.TheVariants.{Renew, Grant, Invalidate, Ack, Offer, Dropped, Batch, Cleared}
use Rattle.protocol.specs.declared.records.Copy.{Copy}
use Rattle.protocol.specs.declared.setup.Setup.{Setup}
use Rattle.protocol.specs.declared.step.Step.{Step}
use Rattle.protocol.specs.declared.tables.Tables.{Tables}
use Rattle.protocol.specs.Messages.{message_at}
use Rattle.protocol.specs.Tables.{no_copy, no_request}
use Rattle.protocol.specs.Writes.{Staged, unstaged, settling, latest_end, write_staged, clock_staged}
use Rattle.protocol.specs.Server.{ack_staged, drop_staged}
use Rattle.protocol.specs.Client.{showable}
use Rattle.protocol.specs.Sound.{records_sound}
use Rattle.protocol.specs.Gate.{is_clock, is_read, is_write, is_deliver, is_restart_server, refusal}
use Rattle.protocol.specs.Decide.{taken}
use Rattle.protocol.specs.World.{World, fresh_world, target, stepped}

-- What happens in a step, in order, read off the rules: a write of v with latest end u is accepted, the write of an object is completed, the server
-- restarts, v is shown to client d, a clock step to T is accepted
pub data Event : Type 0 where
  acceptance : (o v u : ℕ) → Event
  completion : (o : ℕ) → Event
  server_restart : Event
  showing : (d o v : ℕ) → Event
  clock_step : (T : ℕ) → Event

-- the objects whose writes complete in a step, in their order
abbrev pub settling_of : Setup → Staged → List ℕ
settling_of s g = settling g.test s g.tables g.from g.many

abbrev pub completions : Setup → Staged → List Event
completions s g = map completion (settling_of s g)

-- what a received message stages: only an ACK and a DROPPED complete writes
abbrev pub receipt_staged : Setup → Tables → ℕ → Kind → Staged
receipt_staged s t d (Renew _ _ _ _) = unstaged t
receipt_staged s t d (Grant _ _ _ _ _ _ _) = unstaged t
receipt_staged s t d (Invalidate _ _ _) = unstaged t
receipt_staged s t d (Ack o epoch version) = ack_staged s t d o epoch version
receipt_staged s t d (Offer _ _ _) = unstaged t
receipt_staged s t d (Dropped volume number epoch) = drop_staged s t d volume number epoch
receipt_staged s t d (Batch _ _ _ _) = unstaged t
receipt_staged s t d (Cleared _ _ _ _) = unstaged t

abbrev pub delivery_staged : Setup → Tables → ℕ → Staged
delivery_staged s t i = receipt_staged s (taken t i) (message_at t.queue i).client (message_at t.queue i).kind

abbrev pub read_events : Setup → Tables → Copy → ℕ → ℕ → List Event
read_events s t c d o = cond (showable s t c d o) (showing d o c.value ∷ []) []

abbrev pub clock_events : Setup → Tables → ℕ → List Event
clock_events s t T = completions s (clock_staged s t T) ++ (clock_step T ∷ [])

abbrev pub write_events : Setup → Tables → ℕ → ℕ → List Event
write_events s t o v = acceptance o v (latest_end s t o) ∷ completions s (write_staged s t o v)

-- the events of an accepted step, by its kind
unfoldable pub happening : Setup → Tables → Copy → Step → List Event
happening s t c x =
    cond (is_clock x) (clock_events s t x.clock)
    (cond (is_read x) (read_events s t c x.client x.object)
    (cond (is_write x) (write_events s t x.object x.value)
    (cond (is_deliver x) (completions s (delivery_staged s t x.place))
    (cond (is_restart_server x) (server_restart ∷ []) []))))

abbrev pub accepts : Setup → World → Step → Bool
accepts s w x = eqb (refusal s w.tables (records_sound s w.copies w.requests) (get_or w.requests (target s w.tables x).client no_request) x) 0

-- "every refused step included: no change"
unfoldable pub events : Setup → World → Step → List Event
events s w x = cond (accepts s w x) (happening s w.tables (get_or w.copies (target s w.tables x).copy no_copy) x) []

-- "perhaps an open write with value and latest end"
pub data Open : Type 0 where
  none : Open
  write : (v u : ℕ) → Open

abbrev pub is_open : Open → Bool
is_open none = false
is_open (write v u) = true

-- "posts the open write's value": what is posted already stays where none is open
abbrev pub open_or : ℕ → Open → ℕ
open_or old none = old
open_or old (write v u) = v

-- "Per object: a posted value, at first 0, and perhaps an open write. For all objects together: writes accepted, completed, cut off, at first 0."
pub record Ledger : Type 0 where
  pub posted_value : ℕ → ℕ
  pub open_write : ℕ → Open
  pub accepted_count : ℕ
  pub completed_count : ℕ
  pub cut_off_count : ℕ

abbrev pub empty_ledger : Ledger
empty_ledger = record { posted_value = λ o. 0; open_write = λ o. none; accepted_count = 0; completed_count = 0; cut_off_count = 0 }

-- the writes still open
abbrev pub open_count : Setup → Ledger → ℕ
open_count s l = count_from (λ (o : ℕ). is_open (l.open_write o)) 0 s.objects

-- "Accepted write: opens one, .. accepted grows by 1. Completing: posts the open write's value and closes it; completed grows by 1. Accepted server
-- restart: closes every open write and posts nothing; cut off grows by their number. All else: no change."
unfoldable pub book : Setup → Ledger → Event → Ledger
book s l (acceptance o v u) = record {
  posted_value = l.posted_value;
  open_write = updated l.open_write o (write v u);
  accepted_count = l.accepted_count + 1;
  completed_count = l.completed_count;
  cut_off_count = l.cut_off_count;
}
book s l (completion o) = record {
  posted_value = updated l.posted_value o (open_or (l.posted_value o) (l.open_write o));
  open_write = updated l.open_write o none;
  accepted_count = l.accepted_count;
  completed_count = l.completed_count + 1;
  cut_off_count = l.cut_off_count;
}
book s l server_restart = record {
  posted_value = l.posted_value;
  open_write = λ o. none;
  accepted_count = l.accepted_count;
  completed_count = l.completed_count;
  cut_off_count = l.cut_off_count + open_count s l;
}
book s l (showing d o v) = l
book s l (clock_step T) = l

unfoldable pub book_all : Setup → Ledger → List Event → Ledger
book_all s l [] = l
book_all s l (e ∷ es) = book_all s (book s l e) es

-- the ledger with the tables of its own
pub record Books : Type 0 where
  pub world : World
  pub ledger : Ledger

abbrev pub fresh_books : Setup → Books
fresh_books s = record { world = fresh_world s; ledger = empty_ledger }

unfoldable pub books_after : Setup → Books → Step → Books
books_after s b x = record { world = stepped s b.world x; ledger = book_all s b.ledger (events s b.world x) }
