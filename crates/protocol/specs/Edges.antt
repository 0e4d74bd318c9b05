-- 01, "Edges": the starred ones, one table of equations computed by one theorem, on tables of full size.
-- Letters: t tables, x a step, k its kind, i its place, c its clock, y its value.
use Rattle.std.specs.Prelude.{ℕ, Bool, true, false, cond, ◌≡◌, set, replicate}
use Rattle.protocol.specs.declared.message.Kind.TheVariants.{Offer}
use Rattle.protocol.specs.declared.message.Queue.{Queue}
use Rattle.protocol.specs.declared.setup.Setup.{Setup}
use Rattle.protocol.specs.declared.step.Step.{Step}
use Rattle.protocol.specs.declared.tables.Tables.{Tables}
use Rattle.protocol.specs.Messages.{message}
use Rattle.protocol.specs.Tables.{value_at, standing_at, with_clock, with_volumes, with_objects, with_holders, with_queue, fresh_volumes, fresh_objects, fresh_holders, fresh_tables}
use Rattle.protocol.specs.Updates.{with_volume_expiry, with_guard, set_write, set_waiting}
use Rattle.protocol.specs.Leases.{server_alive, client_alive}
use Rattle.protocol.specs.Answers.{answer_number, answer_value}
use Rattle.protocol.specs.World.{World, fresh_world, stepped, answer_of}

-- one client, volume and object; tv 10, t 100, m 3, d 1
unfoldable pub tiny : Setup
tiny = record { clients = 1; volumes = 1; objects = 1; tv = 10; t = 100; m = 3; volume = replicate 28 0; delay = 1 }

unfoldable pub step : ℕ → ℕ → ℕ → ℕ → Step
step k i c y = record { kind = k; client = 0; object = 0; place = i; clock = c; value = y }

unfoldable pub clock : ℕ → Step
clock c = step 1 0 c 0

unfoldable pub write : ℕ → Step
write y = step 4 0 0 y

unfoldable pub lose : ℕ → Step
lose i = step 6 i 0 0

unfoldable pub double : ℕ → Step
double i = step 7 i 0 0

unfoldable pub with_tables_law : Tables → World
with_tables_law t = record { tables = t; copies = (fresh_world tiny).copies; requests = (fresh_world tiny).requests }

-- a write of 7 stands with this latest end and guard, and waits for the client or not
unfoldable pub standing_until : ℕ → ℕ → Bool → Tables
standing_until end guard waiting =
    with_holders
    (with_volumes (with_objects fresh_tables (set_write fresh_objects 0 true 7 end)) (with_guard (with_volume_expiry fresh_volumes (replicate 8 guard)) (replicate 8 guard)))
    (set_waiting fresh_holders 0 (cond waiting 1 0))

-- the list full of OFFERs, the last with another number
unfoldable pub full_list : Queue
full_list = record { items = set (replicate 64 (message 0 (Offer 0 1 1))) 63 (message 0 (Offer 0 63 1)); len = 64 }

unfoldable pub full : Tables
full = with_queue fresh_tables full_list

unfoldable pub at_clock_5 : Tables
at_clock_5 = with_clock fresh_tables 5

-- 01's number and value of what a step answers
unfoldable pub answer : Tables → Step → ℕ × ℕ
answer t x = (answer_number (answer_of tiny (with_tables_law t) x), answer_value (answer_of tiny (with_tables_law t) x))

unfoldable pub after : Tables → Step → Tables
after t x = (stepped tiny (with_tables_law t) x).tables

-- whether the write stands after a step, and the object's value
unfoldable pub stands_after : Tables → Step → Bool
stands_after t x = standing_at (after t x) 0

unfoldable pub value_after : Tables → Step → ℕ
value_after t x = value_at (after t x) 0

unfoldable pub Table : Type 0
Table =
    -- "Expiry 10: alive at 9, dead at 10."
    (server_alive 9 10 ≡ true) × (client_alive 9 10 ≡ true)
    × (server_alive 10 10 ≡ false) × (client_alive 10 10 ≡ false)
    -- "Latest end 10: standing at clock 10, complete at 11."
    × (answer (standing_until 10 0 true) (clock 10) ≡ (0, 0)) × (stands_after (standing_until 10 0 true) (clock 10) ≡ true)
    × (answer (standing_until 10 0 true) (clock 11) ≡ (3, 1)) × (stands_after (standing_until 10 0 true) (clock 11) ≡ false)
    × (value_after (standing_until 10 0 true) (clock 11) ≡ 7)
    -- "Clock equal: accepted; one less: 4."
    × (answer at_clock_5 (clock 5) ≡ (0, 0)) × (answer at_clock_5 (clock 4) ≡ (4, 4))
    -- "Message place 63 of 64: exists; place 64: 3."
    × (answer full (lose 63) ≡ (0, 0)) × (answer full (lose 64) ≡ (4, 3))
    -- "Second write standing: 5."
    × (answer (standing_until 10 0 true) (write 8) ≡ (4, 5))
    -- "Doubling with 64: list as it was."
    × (answer full (double 0) ≡ (0, 0)) × ((after full (double 0)).queue ≡ full_list)
    -- "Write at clock 0 with no lease: complete."
    × (answer fresh_tables (write 7) ≡ (3, 1)) × (stands_after fresh_tables (write 7) ≡ false) × (value_after fresh_tables (write 7) ≡ 7)
    -- "Guard 20: no completion at 19, done at 20 if none waits."
    × (answer (standing_until 20 20 false) (clock 19) ≡ (0, 0)) × (stands_after (standing_until 20 20 false) (clock 19) ≡ true)
    × (answer (standing_until 20 20 false) (clock 20) ≡ (3, 1)) × (stands_after (standing_until 20 20 false) (clock 20) ≡ false)
