-- 02, A1, computed: a run for each case of the theorem, so that it is not empty, and states in which all premises hold but one and the conclusion fails.
-- Letters: w world, ys the steps to it, xs those that the policy takes, n the client's next number, r its request, y the value shown.
use Rattle.std.specs.Prelude.{refl}
use Rattle.laws.specs.Loop.{fold_from, any_from, all_from, first_from}
use Rattle.laws.specs.Lists.{remove_at}
use Rattle.laws.specs.Store.{store_each}
use Rattle.laws.specs.Greatest.{greatest}
use Rattle.laws.specs.Sets.{bit_at, set_of, added, less, all_in}
use Rattle.laws.specs.Sets as sets
use Rattle.protocol.specs.Setup.{in_range, objects_in}
use Rattle.protocol.specs.Messages.{pushed, removed}
use Rattle.protocol.specs.Tables.{fresh_tables}
use Rattle.protocol.specs.Leases.{server_alive, client_alive, client_clock, guard_passed, end_over}
use Rattle.protocol.specs.Writes.{waits, delays, delayed, latest_end, opened, awaited, notified, waited, ready, due, aged_in, aged, clock_set, deserted, posted, released, completed, settled, written}
use Rattle.protocol.specs.Server.{noted, offered, batched, lowest_waited, volume_renewed, object_renewed, granted, must_drop, renewed_by, renewed, ack_taken, acked, ack_staged, drop_taken, disowned, dropped, drop_staged, clear_taken, notes_dropped, notes_cleared, server_restarted}
use Rattle.protocol.specs.Client.{showable, stands, forgotten, swept, swept_all}
use Rattle.protocol.specs.Sound.{queue_sound, tables_sound, copies_sound, requests_sound, sound}
use Rattle.protocol.specs.Gate.{known, exists, timely, vacant, growable, refusal_of_step, refusal}
use Rattle.protocol.specs.Decide.{grant_received, invalidate_received, offer_received, batch_received, received, read_decided, ask_decided, deliver_decided, performed, decided}
use Rattle.protocol.specs.World.{target, decision, stepped, ran}
use Rattle.protocol.specs.Edges.{step, clock}
use Rattle.promises.specs.UntilShown.Policy.{policy}
use Rattle.promises.specs.UntilShown.Examples.{two, observed, Table}

pub table : Table
unfolding Table two observed ran policy step clock fold_from any_from all_from first_from remove_at store_each greatest in_range objects_in bit_at set_of sets.removed added less all_in pushed removed fresh_tables server_alive client_alive client_clock guard_passed end_over waits delays delayed latest_end opened awaited notified waited ready due aged_in aged clock_set deserted posted released completed settled written noted offered batched lowest_waited volume_renewed object_renewed granted must_drop renewed_by renewed ack_taken acked ack_staged drop_taken disowned dropped drop_staged clear_taken notes_dropped notes_cleared server_restarted showable stands forgotten swept swept_all queue_sound tables_sound copies_sound requests_sound sound known exists timely vacant growable refusal_of_step refusal grant_received invalidate_received offer_received batch_received received read_decided ask_decided deliver_decided performed decided target decision stepped
table = (refl, refl, refl, refl, refl, refl, refl, refl)
