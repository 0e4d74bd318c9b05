-- 02, A7: "Give four named states, 0 to 3: two new step kinds, 10 save and 11 return, with the name in the place field." A layer above one step: the
-- states are worlds, and the other steps are those of 01.
-- Letters: s setup, w world, q a machine, u what is saved under a name, n a name, x a step.
use Rattle.std.specs.Prelude.{ℕ, Bool, true, false, cond, not, ◌&&◌, ◌||◌, List, [], ◌∷◌, ◌≡◌, ltb, eqb, get_or, set}
use Rattle.laws.specs.Loop.{all_from}
use Rattle.laws.specs.Line.{Saved, never, state, Kept, start, saved_under, state_or}
use Rattle.protocol.specs.declared.records.Request.{Request}
use Rattle.protocol.specs.declared.setup.Setup.{Setup}
use Rattle.protocol.specs.declared.step.Answer.{Answer}
use Rattle.protocol.specs.declared.step.Answer.TheVariants.{Done, Refused}
use Rattle.protocol.specs.declared.step.Step.{Step}
use Rattle.protocol.specs.Tables.{no_request}
use Rattle.protocol.specs.Sound.{records_sound, sound}
use Rattle.protocol.specs.Gate.{known, exists, timely, vacant, growable, or_refuse}
use Rattle.protocol.specs.World.{World, fresh_world, target, stepped, answer_of}

-- the present state, and what is saved under each of the four names
abbrev pub Machine : Type 0
Machine = Kept World

abbrev pub names : ℕ
names = 4

-- nothing is saved to begin with
abbrev pub fresh_machine : Setup → Machine
fresh_machine s = start names (fresh_world s)

-- "10 save and 11 return, with the name in the place field"
abbrev pub is_save : Step → Bool
is_save x = eqb x.kind 10

abbrev pub is_return : Step → Bool
is_return x = eqb x.kind 11

abbrev pub uses_name : Step → Bool
uses_name x = is_save x || is_return x

-- ---- the questions
abbrev pub world_sound : Setup → World → Bool
world_sound s w = sound s w.tables (records_sound s w.copies w.requests)

-- 1. "A saved state must be sound too"; nothing is asked of a name that was never saved
abbrev pub sound_under : Setup → Saved World → Bool
sound_under s never = true
sound_under s (state w) = world_sound s w

unfoldable pub saved_sound : Setup → Machine → Bool
saved_sound s q = all_from (λ (n : ℕ). sound_under s (saved_under q n)) 0 names

-- 2. the kinds of 01 and the two new ones
unfoldable pub known_kind : Step → Bool
known_kind x = known x || uses_name x

abbrev pub is_there : Saved World → Bool
is_there never = false
is_there (state w) = true

-- 11. "when the name is above 3 or, for a return, was never saved, after the kind question"
unfoldable pub named : Machine → Step → Bool
named q x = not (uses_name x) || (ltb x.place names && (not (is_return x) || is_there (saved_under q x.place)))

-- the request of the client that the step is about
abbrev pub request_for : Setup → World → Step → Request
request_for s w x = get_or w.requests (target s w.tables x).client no_request

-- asked in order; 3 to 6 ask nothing of a save or a return
unfoldable pub refusal_in : Setup → Machine → Step → ℕ
refusal_in s q x =
    or_refuse (world_sound s q.now && saved_sound s q) 1
    (or_refuse (known_kind x) 2
    (or_refuse (named q x) 11
    (or_refuse (exists s q.now.tables x) 3
    (or_refuse (timely q.now.tables x) 4
    (or_refuse (vacant q.now.tables x) 5
    (or_refuse (growable s q.now.tables (request_for s q.now x) x) 6 0))))))

-- ---- the answer
abbrev pub accepted_answer : Setup → World → Step → Answer
accepted_answer s w x = cond (uses_name x) Done (answer_of s w x)

unfoldable pub answer_to : Setup → Machine → Step → Answer
answer_to s q x = cond (eqb (refusal_in s q x) 0) (accepted_answer s q.now x) (Refused (refusal_in s q x))

-- ---- what is left
-- a save under a name that is used already replaces
abbrev pub saving : Machine → ℕ → Machine
saving q n = record { now = q.now; saved = set q.saved n (state q.now) }

-- "Returning restores all tables, messages, counters and clock exactly, but not the four saved states."
abbrev pub returning : Machine → ℕ → Machine
returning q n = record { now = state_or q.now (saved_under q n); saved = q.saved }

abbrev pub stepping : Setup → Machine → Step → Machine
stepping s q x = record { now = stepped s q.now x; saved = q.saved }

-- an accepted step, by its kind
abbrev pub accepted_move : Setup → Machine → Step → Machine
accepted_move s q x = cond (is_save x) (saving q x.place) (cond (is_return x) (returning q x.place) (stepping s q x))

-- a refused one changes nothing, the saved states included
unfoldable pub moved : Setup → Machine → Step → Machine
moved s q x = cond (eqb (refusal_in s q x) 0) (accepted_move s q x) q

-- ---- a list of steps, each on what the last one left
unfoldable pub moved_by : Setup → Machine → List Step → Machine
moved_by s q [] = q
moved_by s q (x ∷ xs) = moved_by s (moved s q x) xs

unfoldable pub answers_to : Setup → Machine → List Step → List Answer
answers_to s q [] = []
answers_to s q (x ∷ xs) = answer_to s q x ∷ answers_to s (moved s q x) xs

-- ---- a call
-- What a call of the step does: on machine q it answers a and leaves p. The contract of the public step says this of what it is lent.
pub record Called (s : Setup) (q : Machine) (x : Step) (a : Answer) (p : Machine) : Type 0 where
  pub answers : a ≡ answer_to s q x
  pub moves : p ≡ moved s q x
