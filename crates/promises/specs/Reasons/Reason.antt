-- 02, A8: "A tool reads the run and gives one reason for a chosen read: never granted, copy invalidated, leases dropped on an offer or batch, dash restarted,
-- volume lease ran out, object lease ran out. They are 1 to 6 in that order; 0 is for a step that is not a read answered "ask first" or not in the run."
-- Letters: s setup, w world, xs the steps of the run, n the number of the chosen one, d its client, o its object, r the reason, l a line.
use Rattle.std.specs.Prelude.{ℕ, ◌-◌, ◌<◌, ◌≤◌, Bool, true, false, cond, ◌&&◌, List, [], ◌∷◌, ◌++◌, ◌≡◌, eqb, leb, get_or, take, Option, None, Some, IsSomeAnd}
use Rattle.protocol.specs.declared.setup.Setup.{Setup}
use Rattle.protocol.specs.declared.step.Answer.{Answer}
use Rattle.protocol.specs.declared.step.Step.{Step}
use Rattle.protocol.specs.Setup.{volume_of}
use Rattle.protocol.specs.Tables.{view_expiry_at}
use Rattle.protocol.specs.Leases.{client_alive, client_clock}
use Rattle.protocol.specs.Answers.{answer_number}
use Rattle.protocol.specs.Gate.{is_read}
use Rattle.protocol.specs.World.{World, fresh_world, stepped}
use Rattle.protocol.specs.Safety.View.{copy_at}
use Rattle.protocol.specs.Saved.{fresh_machine, answer_to, moved_by}
use Rattle.protocol.specs.Line.{Entry, present_line, ran_by}
use Rattle.promises.specs.declared.reasons.Event.{Event}
use Rattle.promises.specs.declared.reasons.Event.TheVariants.{Granted, Erased}
use Rattle.promises.specs.declared.reasons.Last.{Last}
use Rattle.promises.specs.declared.reasons.Reason.{Reason}
use Rattle.promises.specs.declared.reasons.Why.{Why}
use Rattle.promises.specs.declared.reasons.Why.TheVariants.{NeverGranted, CopyInvalidated, LeasesDropped, ClientRestarted, VolumeLeaseRanOut, ObjectLeaseRanOut}
use Rattle.promises.specs.Reasons.Numbers.{number_of}
use Rattle.promises.specs.Reasons.Events.{grants, invalidates, offers, restarts, vanished, erases, happens, last_of}

-- ---- the chosen step
-- past the end of the run there is none
abbrev pub no_step : Step
no_step = record { kind = 0; client = 0; object = 0; place = 0; clock = 0; value = 0 }

-- steps count from 1
abbrev pub chosen : List Step → ℕ → Step
chosen xs n = get_or xs (n - 1) no_step

abbrev pub earlier : List Step → ℕ → List Step
earlier xs n = take (n - 1) xs

-- the state that it meets, and the line of that state
abbrev pub met_by : Setup → List Step → ℕ → World
met_by s xs n = (moved_by s (fresh_machine s) (earlier xs n)).now

abbrev pub line_before : Setup → List Step → ℕ → List Entry
line_before s xs n = present_line s (earlier xs n)

abbrev pub is_ask_first : Answer → Bool
is_ask_first a = eqb (answer_number a) 2

-- "a read answered "ask first"", in the run
unfoldable pub asks_first : Setup → List Step → ℕ → Bool
asks_first s xs n = leb 1 n && (is_read (chosen xs n) && is_ask_first (answer_to s (moved_by s (fresh_machine s) (earlier xs n)) (chosen xs n)))

-- ---- the reason
-- when the client's lease on the object's volume ends, and when that on the object does
abbrev pub view_until : Setup → World → ℕ → ℕ → ℕ
view_until s w d o = view_expiry_at w.tables d (volume_of s o)

abbrev pub copy_until : Setup → World → ℕ → ℕ → ℕ
copy_until s w d o = (copy_at s w.copies d o).expiry

-- "After a grant, the earlier of the dash's two expiries at the read decides, the volume on a tie."
abbrev pub why_by : (view copy : ℕ) → Event → Why
why_by view copy Granted = cond (leb view copy) VolumeLeaseRanOut ObjectLeaseRanOut
why_by view copy (Erased why) = why

-- "It also names that event's step, or 0."
abbrev pub reason_by : Setup → World → ℕ → ℕ → Option Last → Reason
reason_by s w d o None = record { why = NeverGranted; step = 0 }
reason_by s w d o (Some k) = record { why = why_by (view_until s w d o) (copy_until s w d o) k.event; step = k.step }

-- of every other step there is none
unfoldable pub reason_of : Setup → List Step → ℕ → Option Reason
reason_of s xs n =
    cond (asks_first s xs n)
    (Some (reason_by s (met_by s xs n) (chosen xs n).client (chosen xs n).object (last_of s (chosen xs n).client (chosen xs n).object (line_before s xs n))))
    None

-- the two numbers that are given: "They are 1 to 6 in that order; 0 is for a step that is not a read answered "ask first" or not in the run."
abbrev pub reason_number : Option Reason → ℕ
reason_number None = 0
reason_number (Some r) = number_of r.why

abbrev pub event_number : Option Reason → ℕ
event_number None = 0
event_number (Some r) = r.step

-- ---- the claim
-- none of these entries is an event, each on what the ones before left
unfoldable pub Uneventful : Setup → ℕ → ℕ → World → List Entry → Type 0
Uneventful s d o w [] = Unit {0}
Uneventful s d o w (e ∷ l) = (happens s w e.step d o ≡ false) × Uneventful s d o (stepped s w e.step) l

-- an event in step k of the list: it is in the line, P holds of the state that it met and of its step, and no later one in the line is an event
pub record Happened (s : Setup) (d o : ℕ) (l : List Entry) (k : ℕ) (P : World → Step → Type 0) : Type 0 where
  pub older : List Entry
  pub event : Entry
  pub newer : List Entry
  pub parts : l ≡ older ++ (event ∷ newer)
  pub number : event.number ≡ k
  pub occurred : P (ran_by s older) event.step
  pub since : Uneventful s d o (stepped s (ran_by s older) event.step) newer

-- the step x on w erased the copy, and what went to 0 then is 0 still in u, the state that the read meets; `by` says how
pub record Missing (s : Setup) (d o : ℕ) (u : World) (by : World → Step → Bool) (w : World) (x : Step) : Type 0 where
  pub erases : erases s w x d o ≡ true
  pub still : vanished (copy_at s w.copies d o) (copy_at s u.copies d o) ≡ true
  pub how : by w x ≡ true

-- the step x on w granted the copy, and it is held still in u
pub record Holding (s : Setup) (d o : ℕ) (u : World) (w : World) (x : Step) : Type 0 where
  pub grants : grants s w x d o ≡ true
  pub held : (copy_at s u.copies d o).version ≡ 0 → ⊥

abbrev pub Dead : World → ℕ → ℕ → Type 0
Dead w d expiry = client_alive (client_clock w.tables.clock d) expiry ≡ false

-- r explains a read of client d and object o that meets u at the end of the line l
pub record Explains (s : Setup) (l : List Entry) (u : World) (d o : ℕ) (r : Reason) : Type 0 where
  pub some : 1 ≤ number_of r.why
  pub within : number_of r.why ≤ 6
  -- "for 1, that there was none"
  pub never_granted : r.why ≡ NeverGranted → (r.step ≡ 0) × Uneventful s d o (fresh_world s) l
  -- "that the named event occurred and that no later event restored the copy"
  pub invalidated : r.why ≡ CopyInvalidated → Happened s d o l r.step (Missing s d o u (λ w x. invalidates s w x d o))
  pub dropped : r.why ≡ LeasesDropped → Happened s d o l r.step (Missing s d o u (λ w x. offers s w x d o))
  pub restarted : r.why ≡ ClientRestarted → Happened s d o l r.step (Missing s d o u (λ w x. restarts s w x d))
  -- "for 5 and 6, that the named lease was dead"
  pub volume_over : r.why ≡ VolumeLeaseRanOut → Happened s d o l r.step (Holding s d o u) × Dead u d (view_until s u d o) × (view_until s u d o ≤ copy_until s u d o)
  pub object_over : r.why ≡ ObjectLeaseRanOut → Happened s d o l r.step (Holding s d o u) × Dead u d (copy_until s u d o) × (copy_until s u d o < view_until s u d o)

-- of a chosen step: none where it is no read answered "ask first", or not in the run
pub record Explained (s : Setup) (xs : List Step) (n : ℕ) (r : Option Reason) : Type 0 where
  pub other : asks_first s xs n ≡ false → r ≡ None
  pub asked : asks_first s xs n ≡ true → IsSomeAnd r (Explains s (line_before s xs n) (met_by s xs n) (chosen xs n).client (chosen xs n).object)
