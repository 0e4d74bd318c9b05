-- 01, "Questions at the gate": asked in order; the first "no" gives its number. 0 is none: the step is accepted.
use Rattle.std.specs.Prelude.{ℕ, Bool, cond, not, ◌&&◌, ◌||◌, ltb, eqb}
use Rattle.laws.specs.Loop.{all_from}
use Rattle.protocol.specs.declared.records.Request.{Request}
use Rattle.protocol.specs.declared.setup.Setup.{Setup}
use Rattle.protocol.specs.declared.step.Step.{Step}
use Rattle.protocol.specs.declared.tables.Tables.{Tables}
use Rattle.protocol.specs.Tables.{epoch_at, version_at, standing_at}
use Rattle.protocol.specs.Setup.{between}
use Rattle.protocol.specs.Sound.{sound, clock_limit, can_grow}

-- the kinds of steps (01, "Steps")
abbrev pub is_clock : Step → Bool
is_clock x = eqb x.kind 1

abbrev pub is_read : Step → Bool
is_read x = eqb x.kind 2

abbrev pub is_ask : Step → Bool
is_ask x = eqb x.kind 3

abbrev pub is_write : Step → Bool
is_write x = eqb x.kind 4

abbrev pub is_deliver : Step → Bool
is_deliver x = eqb x.kind 5

abbrev pub is_lose : Step → Bool
is_lose x = eqb x.kind 6

abbrev pub is_double : Step → Bool
is_double x = eqb x.kind 7

abbrev pub is_restart_server : Step → Bool
is_restart_server x = eqb x.kind 8

abbrev pub is_restart_client : Step → Bool
is_restart_client x = eqb x.kind 9

-- the fields that a kind uses
abbrev pub uses_client : Step → Bool
uses_client x = is_read x || is_ask x || is_restart_client x

abbrev pub uses_object : Step → Bool
uses_object x = is_read x || is_ask x || is_write x

abbrev pub uses_place : Step → Bool
uses_place x = is_deliver x || is_lose x || is_double x

-- 2. "Is the kind 1 to 9?"
unfoldable pub known : Step → Bool
known x = between 1 9 x.kind

-- 3. "Do the dash, object and place it uses exist?"
unfoldable pub exists : Setup → Tables → Step → Bool
exists s t x =
    (not (uses_client x) || ltb x.client s.clients)
    && (not (uses_object x) || ltb x.object s.objects)
    && (not (uses_place x) || ltb x.place t.queue.len)

-- 4. "Is T from the clock to 2,147,483,647?"
unfoldable pub timely : Tables → Step → Bool
timely t x = not (is_clock x) || between t.clock clock_limit x.clock

-- 5. "For a write, is none standing there?"
unfoldable pub vacant : Tables → Step → Bool
vacant t x = not (is_write x) || not (standing_at t x.object)

-- 6. "Is the version, every epoch or the next number that must grow below 4,294,967,295?"
unfoldable pub growable : Setup → Tables → Request → Step → Bool
growable s t r x =
    (not (is_write x) || can_grow (version_at t x.object))
    && (not (is_restart_server x) || all_from (λ (v : ℕ). can_grow (epoch_at t v)) 0 s.volumes)
    && (not (is_ask x) || can_grow r.next)

abbrev pub or_refuse : Bool → ℕ → ℕ → ℕ
or_refuse ok number next = cond ok next number

-- questions 2 to 6, once the tables are known to be sound
unfoldable pub refusal_of_step : Setup → Tables → Request → Step → ℕ
refusal_of_step s t r x =
    or_refuse (known x) 2 (or_refuse (exists s t x) 3 (or_refuse (timely t x) 4 (or_refuse (vacant t x) 5 (or_refuse (growable s t r x) 6 0))))

unfoldable pub refusal : Setup → Tables → Bool → Request → Step → ℕ
refusal s t records r x = or_refuse (sound s t records) 1 (refusal_of_step s t r x)
