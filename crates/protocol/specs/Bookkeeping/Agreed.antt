-- Demand 3, all of it but one thing: that a client which may show its copy has the server's value. That is asked of an invariant P of worlds.
-- Letters: s setup, w world, k that it is sound, t tables, x a step, c a copy, r a request, g a decision or what is recorded of it, d client, o
-- object, y value, u latest end, n writes reported before, l and m ledgers, h that one is booked, b what a step books, v what is asked of P; the
-- others are proofs.
use Rattle.std.specs.Prelude.{ℕ, ◌+◌, ◌<◌, true, ◌≡◌}
use Rattle.protocol.specs.declared.setup.Setup.{Setup}
use Rattle.protocol.specs.declared.step.Step.{Step}
use Rattle.protocol.specs.Tables.{value_at}
use Rattle.protocol.specs.Client.{showable}
use Rattle.protocol.specs.Answers.{reported}
use Rattle.protocol.specs.World.{World, fresh_world, stepped, answer_of}
use Rattle.protocol.specs.Ledger.{Ledger}
use Rattle.protocol.specs.Soundness.Question.{SoundWorld}
use Rattle.protocol.specs.Bookkeeping.Booked.{Booked}
use Rattle.protocol.specs.Safety.View.{copy_at}

-- a client that may show its copy of an object has the server's value
abbrev pub ReadsCurrent : Setup → World → Type 0
ReadsCurrent s w =
    (d o : ℕ) → d < s.clients → o < s.objects → showable s w.tables (copy_at s w.copies d o) d o ≡ true → (copy_at s w.copies d o).value ≡ value_at w.tables o

-- a step of a world, and the ledger l before it: what the ledger is after it
pub record BookedStep (s : Setup) (w : World) (x : Step) (l m : Ledger) : Type 0 where
  pub keeps : Booked s (stepped s w x).tables m
  pub reports : m.completed_count ≡ l.completed_count + reported (answer_of s w x)

-- ---- one step, against the ledger after it
-- What is still asked of demand 3: an invariant that fresh tables have, that every step of a sound world keeps, and under which every client reads what
-- is current.
pub record Invariant {κ} (s : Setup) (P : World → Type κ) : Type κ where
  pub fresh : P (fresh_world s)
  pub kept : (w : World) (x : Step) → SoundWorld s w → P w → P (stepped s w x)
  pub current : (w : World) → SoundWorld s w → P w → ReadsCurrent s w
