-- 02, A5: the numbers drawn from a seed, and the step made of five of them.
use Rattle.std.specs.Prelude.{ℕ, zero, suc, ◌+◌, ◌*◌, ◌%◌, cond}
use Rattle.protocol.specs.declared.setup.Setup.{Setup}
use Rattle.protocol.specs.declared.step.Step.{Step}
use Rattle.protocol.specs.Gate.{is_clock, is_write, uses_client, uses_object, uses_place}
use Rattle.workload.specs.declared.draws.Drawn.{Drawn}

-- "From a 32-bit seed s, the next is 1,664,525 × s + 1,013,904,223, kept modulo 2 to the 32nd."
unfoldable pub next : ℕ → ℕ
next s = (1664525 * s + 1013904223) % 4294967296

-- "Each draw is that next number": draw k from seed s. The first is `draw s 1`; the seed itself is never drawn.
unfoldable pub draw : ℕ → ℕ → ℕ
draw s zero = s
draw s (suc k) = next (draw s k)

-- "Each step draws five times, in order: kind 1 + draw mod 9, dash, object and place by remainder of draw by their counts (64 for place), and amount draw
-- mod 5. A clock step adds the amount to a total that starts at 0 and has the new total as its clock; a write has the amount as its value"
unfoldable pub fields_drawn : Setup → ℕ → ℕ → Step
fields_drawn q s total = record {
  kind = 1 + draw s 1 % 9;
  client = draw s 2 % q.clients;
  object = draw s 3 % q.objects;
  place = draw s 4 % 64;
  clock = total + draw s 5 % 5;
  value = draw s 5 % 5;
}

-- "unused fields are 0"; the kinds drawn, 1 to 9, have no name
unfoldable pub only_used : Step → Step
only_used x = record {
  kind = x.kind;
  client = cond (uses_client x) x.client 0;
  object = cond (uses_object x) x.object 0;
  place = cond (uses_place x) x.place 0;
  clock = cond (is_clock x) x.clock 0;
  value = cond (is_write x) x.value 0;
}

-- The step drawn from a seed, with the clock total before it.
abbrev pub drawn_step : Setup → ℕ → ℕ → Step
drawn_step q s total = only_used (fields_drawn q s total)

-- The clock total after a step: "A clock step .. has the new total as its clock".
unfoldable pub total_after : Step → ℕ → ℕ
total_after x total = cond (is_clock x) x.clock total

abbrev pub drawn_after : Setup → ℕ → ℕ → Drawn
drawn_after q s total = record { step = drawn_step q s total; seed = draw s 5; total = total_after (drawn_step q s total) total }
