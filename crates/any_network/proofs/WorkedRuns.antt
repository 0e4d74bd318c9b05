-- Two runs of halves, worked through by computation. The setup is 01's own: one client, one volume, one object, tv 10, t 100, m 3, d 1.
-- Letters: a a value, T a time, y a move, n a number.
use Rattle.std.specs.Prelude.{[], ◌∷◌, map, ◌≡◌, refl, get_or, length}
use Rattle.laws.specs.Loop.{fold_from, any_from, all_from, first_from}
use Rattle.laws.specs.Store.{store_each}
use Rattle.laws.specs.Greatest.{greatest}
use Rattle.laws.specs.Sets.{bit_at, set_of, removed}
use Rattle.protocol.specs.Messages.{pushed}
use Rattle.protocol.specs.Tables.{fresh_tables}
use Rattle.protocol.specs.Leases.{server_alive, client_alive, guard_passed, end_over}
use Rattle.protocol.specs.Writes.{waits, delays, delayed, latest_end, opened, awaited, notified, waited, ready, due, clock_set, deserted, posted, released, completed, settled, settling, written}
use Rattle.protocol.specs.Server.{noted, offered, lowest_waited, volume_renewed, object_renewed, granted, must_drop, renewed_by, renewed, ack_taken, acked, ack_staged, drop_taken, disowned, dropped, drop_staged, server_restarted}
use Rattle.protocol.specs.Client.{stands, forgotten, swept}
use Rattle.protocol.specs.Answers.{answer_number, answer_value}
use Rattle.protocol.specs.Ledger.{acceptance, completion, server_restart, showing, clock_step}
use Rattle.protocol.specs.History.{told}
use Rattle.protocol.specs.Gate.{known, exists, timely, vacant, growable, refusal_of_step}
use Rattle.protocol.specs.Edges.{tiny}
use Rattle.any_network.specs.Network.{sent_at}
use Rattle.any_network.specs.Halves.{swept_from}
use Rattle.any_network.specs.Fleet.{fresh_fleet, fleet_moved_all, fleet_answers, fleet_history_from, fleet_history}
use Rattle.any_network.specs.WorkedRuns.{troubled, times, arrivals_below, crowded}

pub troubled_answers : (map answer_number (fleet_answers tiny (fresh_fleet tiny) troubled)
    ≡ 3 ∷ 0 ∷ 0 ∷ 0 ∷ 0 ∷ 0 ∷ 0 ∷ 0 ∷ 0 ∷ 1 ∷ 0 ∷ 0 ∷ 1 ∷ 0 ∷ 0 ∷ 2 ∷ 3 ∷ 0 ∷ 0 ∷ 0 ∷ 0 ∷ 0 ∷ 1 ∷ 0 ∷ 2 ∷ 4 ∷ 0 ∷ 0 ∷ 0 ∷ 3 ∷ [])
    × (map answer_value (fleet_answers tiny (fresh_fleet tiny) troubled)
    ≡ 1 ∷ 0 ∷ 0 ∷ 0 ∷ 0 ∷ 0 ∷ 0 ∷ 0 ∷ 0 ∷ 7 ∷ 0 ∷ 0 ∷ 7 ∷ 0 ∷ 0 ∷ 0 ∷ 1 ∷ 0 ∷ 0 ∷ 0 ∷ 0 ∷ 0 ∷ 8 ∷ 0 ∷ 0 ∷ 3 ∷ 0 ∷ 0 ∷ 0 ∷ 1 ∷ [])
unfolding troubled tiny fleet_answers sent_at fold_from any_from all_from first_from store_each greatest bit_at set_of removed pushed fresh_tables server_alive client_alive guard_passed end_over waits delays delayed latest_end opened awaited notified waited ready due clock_set deserted posted released completed settled written noted offered lowest_waited volume_renewed object_renewed granted must_drop renewed_by renewed ack_taken acked ack_staged drop_taken disowned dropped drop_staged server_restarted stands forgotten swept swept_from known exists timely vacant growable refusal_of_step
troubled_answers = (refl, refl)

-- its history, newest first
pub troubled_history : fleet_history tiny troubled
    ≡ clock_step 10 ∷ completion 0 ∷ acceptance 0 9 10 ∷ server_restart ∷ clock_step 2 ∷ showing 0 0 8 ∷ completion 0 ∷ showing 0 0 7 ∷ acceptance 0 8 10
    ∷ showing 0 0 7 ∷ completion 0 ∷ acceptance 0 7 3 ∷ []
unfolding troubled tiny fleet_answers sent_at fold_from any_from all_from first_from store_each greatest bit_at set_of removed pushed fresh_tables server_alive client_alive guard_passed end_over waits delays delayed latest_end opened awaited notified waited ready due clock_set deserted posted released completed settled written noted offered lowest_waited volume_renewed object_renewed granted must_drop renewed_by renewed ack_taken acked ack_staged drop_taken disowned dropped drop_staged server_restarted stands forgotten swept swept_from known exists timely vacant growable refusal_of_step fleet_history_from told settling
troubled_history = refl

pub crowded_shows : (length (fleet_moved_all tiny (fresh_fleet tiny) crowded).sent ≡ 74) × (get_or (map answer_number (fleet_answers tiny (fresh_fleet tiny) crowded)) 145 9 ≡ 1)
unfolding crowded times arrivals_below tiny fleet_moved_all fleet_answers sent_at fold_from any_from all_from first_from store_each greatest bit_at set_of removed pushed fresh_tables server_alive client_alive guard_passed end_over waits delays delayed latest_end opened awaited notified waited ready due clock_set deserted posted released completed settled written noted offered lowest_waited volume_renewed object_renewed granted must_drop renewed_by renewed ack_taken acked ack_staged drop_taken disowned dropped drop_staged server_restarted stands forgotten swept swept_from known exists timely vacant growable refusal_of_step
crowded_shows = (refl, refl)
