-- Four runs worked through by computation. Every message is delivered, and lost, from place 0.
use Rattle.std.specs.Prelude.{true, false, [], ◌∷◌, ◌++◌, map, ◌≡◌, refl, None}
use Rattle.laws.specs.Loop.{fold_from, any_from, all_from, first_from, count_from}
use Rattle.laws.specs.Lists.{remove_at}
use Rattle.laws.specs.Store.{store_each}
use Rattle.laws.specs.Greatest.{greatest}
use Rattle.laws.specs.Sets.{bit_at, set_of, added, less, all_in}
use Rattle.laws.specs.Sets as sets
use Rattle.protocol.specs.declared.message.Kind.TheVariants.{Grant, Batch, Cleared}
use Rattle.protocol.specs.Setup.{in_range, objects_in}
use Rattle.protocol.specs.Messages.{message, pushed, removed}
use Rattle.protocol.specs.Tables.{fresh_tables}
use Rattle.protocol.specs.Leases.{server_alive, client_alive, client_clock, guard_passed, end_over}
use Rattle.protocol.specs.Writes.{waits, delays, delayed, latest_end, opened, awaited, notified, waited, ready, due, aged_in, aged, clock_set, deserted, posted, released, completed, settled, settling, written}
use Rattle.protocol.specs.Server.{noted, offered, batched, lowest_waited, volume_renewed, object_renewed, granted, must_drop, renewed_by, renewed, ack_taken, acked, ack_staged, drop_taken, disowned, dropped, drop_staged, clear_taken, notes_dropped, notes_cleared, server_restarted}
use Rattle.protocol.specs.Client.{showable, stands, forgotten, swept, swept_all}
use Rattle.protocol.specs.Sound.{queue_sound, tables_sound, copies_sound, requests_sound, sound}
use Rattle.protocol.specs.Answers.{answer_number, answer_value}
use Rattle.protocol.specs.Gate.{known, exists, timely, vacant, growable, refusal_of_step, refusal}
use Rattle.protocol.specs.Decide.{grant_received, invalidate_received, offer_received, batch_received, received, read_decided, ask_decided, deliver_decided, restart_decided, performed, decided}
use Rattle.protocol.specs.World.{fresh_world, target, decision, stepped, ran, answers}
use Rattle.protocol.specs.Edges.{tiny, step, clock, write, lose}
use Rattle.protocol.specs.Ledger.{acceptance, completion, showing, clock_step, happening, events}
use Rattle.protocol.specs.NeverLater.{former_end}
use Rattle.protocol.specs.History.{told, history_from, history, open_in, still_open, cut_offs, how_often, is_acceptance, is_completion}
use Rattle.promises.specs.UntilShown.Policy.{read, ask, deliver}
use Rattle.promises.specs.WorkedRuns.{restart, steps, events_told, answer_numbers, answer_values, two_clients, taken_apart, write_unheard, asked_again, met}
use Rattle.promises.specs.WorkedRuns.{parked, kept}

pub worked_through : (history tiny steps ≡ events_told)
    × (map answer_number (answers tiny (fresh_world tiny) steps) ≡ answer_numbers)
    × (map answer_value (answers tiny (fresh_world tiny) steps) ≡ answer_values)
unfolding events_told answer_numbers answer_values answers tiny step clock lose restart write steps told history_from events happening fold_from any_from all_from first_from remove_at store_each greatest in_range objects_in bit_at set_of sets.removed added less all_in pushed removed fresh_tables server_alive client_alive client_clock guard_passed end_over waits delays delayed latest_end opened awaited notified waited ready due aged_in aged clock_set deserted posted released completed settled settling written noted offered batched lowest_waited volume_renewed object_renewed granted must_drop renewed_by renewed ack_taken acked ack_staged drop_taken disowned dropped drop_staged clear_taken notes_dropped notes_cleared server_restarted showable stands forgotten swept swept_all queue_sound tables_sound copies_sound requests_sound sound known exists timely vacant growable refusal_of_step refusal grant_received invalidate_received offer_received batch_received received read_decided ask_decided deliver_decided performed decided target decision stepped
worked_through = (refl, refl, refl)

-- accepted = completed + cut off + open
pub tallied : (how_often is_acceptance events_told ≡ 4)
    × (how_often is_completion events_told ≡ 3)
    × (cut_offs tiny events_told ≡ 1)
    × (still_open tiny events_told ≡ 0)
unfolding events_told how_often cut_offs open_in count_from tiny
tallied = (refl, refl, refl, refl)

-- ---- 02, A3: "a write wait on the lease of a dash that never held the notice"

pub never_held : (history two_clients (taken_apart ++ write_unheard) ≡ clock_step 13 ∷ completion 0 ∷ clock_step 12 ∷ acceptance 0 7 12 ∷ clock_step 9 ∷ [])
    × (latest_end two_clients (ran two_clients (fresh_world two_clients) taken_apart).tables 0 ≡ 12)
    × (former_end two_clients (ran two_clients (fresh_world two_clients) taken_apart).tables 0 ≡ 19)
unfolding two_clients taken_apart write_unheard former_end ran step clock lose write told history_from events happening fold_from any_from all_from first_from remove_at store_each greatest in_range objects_in bit_at set_of sets.removed added less all_in pushed removed fresh_tables server_alive client_alive client_clock guard_passed end_over waits delays delayed latest_end opened awaited notified waited ready due aged_in aged clock_set deserted posted released completed settled settling written noted offered batched lowest_waited volume_renewed object_renewed granted must_drop renewed_by renewed ack_taken acked ack_staged drop_taken disowned dropped drop_staged clear_taken notes_dropped notes_cleared server_restarted showable stands forgotten swept swept_all queue_sound tables_sound copies_sound requests_sound sound known exists timely vacant growable refusal_of_step refusal grant_received invalidate_received offer_received batch_received received read_decided ask_decided deliver_decided performed decided target decision stepped
never_held = (refl, refl, refl)

-- ---- 02, A4: "a matching GRANT without a value"

-- the GRANT meets the version that it names; once the client has restarted, its number stands no more and no copy is there
pub asked_again_law : (met (ran tiny (fresh_world tiny) asked_again) ≡ (1, message 0 (Grant 0 3 10 1 1 100 None), 1, true))
    × (met (ran tiny (fresh_world tiny) (asked_again ++ (step 9 0 0 0 ∷ []))) ≡ (1, message 0 (Grant 0 3 10 1 1 100 None), 0, false))
unfolding asked_again tiny ran step fold_from all_from first_from remove_at store_each in_range objects_in bit_at set_of sets.removed added less all_in pushed removed fresh_tables ready settled noted offered batched lowest_waited volume_renewed object_renewed granted must_drop renewed_by renewed drop_taken disowned dropped drop_staged stands swept swept_all queue_sound tables_sound copies_sound requests_sound sound known exists timely vacant growable refusal_of_step refusal grant_received offer_received received ask_decided deliver_decided restart_decided performed decided target decision stepped
asked_again_law = (refl, refl)

-- ---- 02, A6: "Delayed invalidations"

-- the write completes at once and the object is noted; the RENEW is answered by the BATCH, that by the CLEARED, which drops the note; then the client asks
-- again and is shown the new value
pub parked_client : (kept parked ≡ (1, 0, false, []))
    × (history tiny parked ≡ completion 0 ∷ acceptance 0 7 13 ∷ clock_step 10 ∷ [])
    × (kept (parked ++ (ask 0 0 ∷ deliver ∷ [])) ≡ (1, 3, false, message 0 (Batch 0 3 1 1) ∷ []))
    × (kept (parked ++ (ask 0 0 ∷ deliver ∷ deliver ∷ [])) ≡ (1, 3, false, message 0 (Cleared 0 3 1 1) ∷ []))
    × (kept (parked ++ (ask 0 0 ∷ deliver ∷ deliver ∷ deliver ∷ [])) ≡ (0, 0, false, []))
    × (history tiny (parked ++ (ask 0 0 ∷ deliver ∷ deliver ∷ deliver ∷ ask 0 0 ∷ deliver ∷ deliver ∷ read 0 0 ∷ [])) ≡ showing 0 0 7 ∷ completion 0 ∷ acceptance 0 7 13 ∷ clock_step 10 ∷ [])
    -- "A clock step to volume expiry + d or later .. marks a noted dash unreachable", and not an earlier one
    × (kept (parked ++ (clock 10 ∷ [])) ≡ (1, 0, false, []))
    × (kept (parked ++ (clock 11 ∷ [])) ≡ (0, 0, true, []))
unfolding tiny parked ran step clock write told history_from events happening fold_from any_from all_from first_from remove_at store_each greatest in_range objects_in bit_at set_of sets.removed added less all_in pushed removed fresh_tables server_alive client_alive client_clock guard_passed end_over waits delays delayed latest_end opened awaited notified waited ready due aged_in aged clock_set deserted posted released completed settled settling written noted offered batched lowest_waited volume_renewed object_renewed granted must_drop renewed_by renewed ack_taken acked ack_staged drop_taken disowned dropped drop_staged clear_taken notes_dropped notes_cleared server_restarted showable stands forgotten swept swept_all queue_sound tables_sound copies_sound requests_sound sound known exists timely vacant growable refusal_of_step refusal grant_received invalidate_received offer_received batch_received received read_decided ask_decided deliver_decided performed decided target decision stepped
parked_client = (refl, refl, refl, refl, refl, refl, refl, refl)
