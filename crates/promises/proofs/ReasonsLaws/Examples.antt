-- 02, A8, computed: each reason once, on lines that go back to a saved state.
use Rattle.std.specs.Prelude.{ℕ, [], ◌∷◌, map, ◌≡◌, refl}
use Rattle.laws.specs.Loop.{fold_from, any_from, all_from, first_from}
use Rattle.laws.specs.Lists.{remove_at}
use Rattle.laws.specs.Store.{store_each}
use Rattle.laws.specs.Greatest.{greatest}
use Rattle.laws.specs.Line.{made, along}
use Rattle.protocol.specs.Setup.{in_range, objects_in}
use Rattle.protocol.specs.Messages.{pushed, removed}
use Rattle.protocol.specs.Tables.{fresh_tables}
use Rattle.protocol.specs.Leases.{server_alive, client_alive, client_clock, guard_passed, end_over}
use Rattle.protocol.specs.Writes.{waits, latest_end, opened, awaited, notified, waited, ready, due, deserted, posted, released, completed, settled, written, clock_set, aged_in, aged, delayed, delays}
use Rattle.protocol.specs.Server.{noted, offered, lowest_waited, volume_renewed, object_renewed, granted, must_drop, renewed_by, renewed, ack_taken, acked, ack_staged, drop_taken, disowned}
use Rattle.protocol.specs.Server.{dropped, drop_staged, server_restarted, notes_cleared, notes_dropped, clear_taken, batched}
use Rattle.protocol.specs.Client.{showable, stands, forgotten, swept, swept_all, client_restarted}
use Rattle.protocol.specs.Sound.{queue_sound, tables_sound, copies_sound, requests_sound, sound}
use Rattle.protocol.specs.Gate.{known, exists, timely, vacant, growable, refusal_of_step, refusal}
use Rattle.protocol.specs.Decide.{grant_received, invalidate_received, offer_received, received, read_decided, ask_decided, deliver_decided, restart_decided, performed, decided, batch_received}
use Rattle.protocol.specs.World.{target, decision, stepped}
use Rattle.protocol.specs.Saved.{saved_sound, known_kind, named, refusal_in, answer_to, moved, moved_by}
use Rattle.protocol.specs.SavedEdges.{save, return}
use Rattle.protocol.specs.Line.{entries_from}
use Rattle.protocol.specs.Edges.{step, clock, write}
use Rattle.promises.specs.Reasons.Events.{grants, invalidates, offers, restarts, vanished, erases, cause, event_of}
use Rattle.promises.specs.Reasons.Reason.{asks_first, reason_of, reason_number, event_number}
use Rattle.promises.specs.Reasons.Examples.{leased, asking}
use Rattle.laws.specs.Sets as sets
use Rattle.laws.specs.Sets.{all_in, set_of, added, less, bit_at}

abbrev reason_at : ℕ → ℕ → ℕ × ℕ
reason_at t n = (reason_number (reason_of (leased t) asking n), event_number (reason_of (leased t) asking n))

-- with t 100 the volume lease runs out first, with t 10 both at once, with t 5 the object lease
pub reasons_given : (map (reason_at 100) (2 ∷ 13 ∷ 17 ∷ 20 ∷ 26 ∷ 33 ∷ 35 ∷ []) ≡ (1, 0) ∷ (5, 9) ∷ (2, 16) ∷ (4, 19) ∷ (3, 25) ∷ (3, 32) ∷ (1, 0) ∷ [])
    -- no step, another kind, shown, past the end
    × (map (reason_at 100) (0 ∷ 1 ∷ 10 ∷ 36 ∷ []) ≡ (0, 0) ∷ (0, 0) ∷ (0, 0) ∷ (0, 0) ∷ [])
    × (reason_at 10 13 ≡ (5, 9))
    × (reason_at 5 13 ≡ (6, 9))
unfolding leased asking save return reason_of asks_first grants invalidates offers restarts vanished erases cause event_of made moved_by entries_from along answer_to moved refusal_in saved_sound known_kind named step clock write fold_from any_from all_from first_from remove_at store_each in_range pushed removed fresh_tables server_alive client_alive client_clock guard_passed end_over waits latest_end opened awaited notified waited ready due deserted posted released completed settled written noted offered lowest_waited volume_renewed object_renewed granted must_drop renewed_by renewed ack_taken acked ack_staged drop_taken disowned dropped drop_staged server_restarted showable stands forgotten swept swept_all queue_sound tables_sound copies_sound requests_sound sound known exists timely vacant growable refusal_of_step refusal grant_received invalidate_received offer_received received read_decided ask_decided deliver_decided performed decided target decision stepped restart_decided greatest client_restarted bit_at less added set_of all_in objects_in delays delayed aged aged_in clock_set batched clear_taken notes_dropped notes_cleared batch_received sets.removed
reasons_given = (refl, refl, refl, refl)
