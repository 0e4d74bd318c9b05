-- The last event is saved and restored with the state: kept beside each state, it is the one of that state's line.
-- Letters: s setup, xs steps, x one more, q the machine that it meets, a its answer, n its number or a name, e its entry, d client, o object, k the last events,
-- ls the lines, l a line.
use Rattle.std.specs.Prelude.{ℕ, ◌+◌, ◌<◌, List, ◌≡◌, length, get_or, set, replicate, Option}
use Rattle.std.proofs.Math.Bool.{true, false}
use Rattle.laws.specs.Line.{state, Kept, saved_under, Act, go, save, back, idle}
use Rattle.protocol.specs.declared.setup.Setup.{Setup}
use Rattle.protocol.specs.declared.step.Answer.{Answer}
use Rattle.protocol.specs.declared.step.Step.{Step}
use Rattle.protocol.specs.Answers.{is_refused}
use Rattle.protocol.specs.Saved.{names, fresh_machine, uses_name, answer_to, moved_by}
use Rattle.protocol.specs.Line.{Entry}
use Rattle.promises.specs.declared.reasons.Last.{Last}
use Rattle.promises.specs.declared.reasons.Lasts.{Lasts}
use Rattle.promises.specs.Reasons.Events.{no_event, last_of}

-- nothing has happened yet
abbrev pub no_events : Lasts
no_events = record { now = no_event; saved = replicate names no_event }

-- what is done with the states is done with their last events
abbrev pub followed : Lasts → Act (Option Last) → Lasts
followed k (go l) = record { now = l; saved = k.saved }
followed k (save n) = record { now = k.now; saved = set k.saved n k.now }
followed k (back n) = record { now = get_or k.saved n no_event; saved = k.saved }
followed k idle = k

-- an accepted save or return has one of the four names
abbrev pub NameKnown : Step → Answer → Type 0
NameKnown x a = uses_name x ≡ true → is_refused a ≡ false → x.place < names

-- ---- a list that grows by a step
-- the entry of one more step
abbrev pub entry_of : Setup → List Step → Step → Entry
entry_of s xs x = record { number = length xs + 1; step = x; answer = answer_to s (moved_by s (fresh_machine s) xs) x }

-- ---- each state has the last event of its line
pub record Follows (s : Setup) (d o : ℕ) (ls : Kept (List Entry)) (k : Lasts) : Type 0 where
  pub now : k.now ≡ last_of s d o ls.now
  pub many : length k.saved ≡ names
  pub saved : (n : ℕ) (l : List Entry) → saved_under ls n ≡ state l → get_or k.saved n no_event ≡ last_of s d o l
