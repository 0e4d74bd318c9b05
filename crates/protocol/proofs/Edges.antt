-- 01, "Edges": the starred ones, one table of equations computed by one theorem, on tables of full size.
-- Letters: t tables, x a step, k its kind, i its place, c its clock, y its value.
use Rattle.std.specs.Prelude.{refl}
use Rattle.laws.specs.Loop.{fold_from, any_from, all_from, first_from}
use Rattle.laws.specs.Lists.{remove_at}
use Rattle.laws.specs.Store.{store_each}
use Rattle.laws.specs.Greatest.{greatest}
use Rattle.laws.specs.Sets.{set_of, bit_at, all_in}
use Rattle.protocol.specs.Setup.{in_range, objects_in}
use Rattle.protocol.specs.Messages.{pushed, removed}
use Rattle.protocol.specs.Tables.{fresh_tables}
use Rattle.protocol.specs.Leases.{server_alive, client_alive, client_clock, guard_passed, end_over}
use Rattle.protocol.specs.Writes.{waits, delays, delayed, latest_end, opened, awaited, notified, waited, ready, due, aged, aged_in, clock_set, deserted, posted, released, completed, settled, written}
use Rattle.protocol.specs.Client.{swept, swept_all}
use Rattle.protocol.specs.Sound.{queue_sound, tables_sound, copies_sound, requests_sound, sound}
use Rattle.protocol.specs.Gate.{known, exists, timely, vacant, growable, refusal_of_step, refusal}
use Rattle.protocol.specs.Decide.{performed, decided}
use Rattle.protocol.specs.World.{target, decision, stepped}
use Rattle.protocol.specs.Edges.{tiny, step, clock, write, lose, double, with_tables_law, standing_until, full_list, full, at_clock_5, answer, after}
use Rattle.protocol.specs.Edges.{stands_after, value_after, Table}

pub edges : Table
unfolding Table tiny step clock write lose double with_tables_law standing_until full_list full at_clock_5 answer after stands_after value_after fold_from any_from all_from first_from remove_at store_each greatest in_range pushed removed fresh_tables server_alive client_alive client_clock guard_passed end_over waits delays delayed latest_end opened awaited notified waited ready due aged aged_in clock_set deserted posted released completed settled written swept swept_all queue_sound tables_sound copies_sound requests_sound sound objects_in set_of bit_at all_in known exists timely vacant growable refusal_of_step refusal performed decided target decision stepped
edges = (refl, refl, refl, refl, refl, refl, refl, refl, refl, refl, refl, refl, refl, refl, refl, refl, refl, refl, refl, refl, refl, refl, refl)
