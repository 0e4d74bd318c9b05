-- 02, A7: a run that saves, goes back, and so abandons a branch, worked through by computation. Every message is delivered from place 0.
use Rattle.std.specs.Prelude.{[], ◌∷◌, ◌++◌, map, ◌≡◌, refl}
use Rattle.laws.specs.Loop.{fold_from, any_from, all_from, first_from}
use Rattle.laws.specs.Lists.{remove_at}
use Rattle.laws.specs.Store.{store_each}
use Rattle.laws.specs.Greatest.{greatest}
use Rattle.laws.specs.Line.{along}
use Rattle.protocol.specs.Setup.{in_range, objects_in}
use Rattle.protocol.specs.Messages.{pushed, removed}
use Rattle.protocol.specs.Tables.{fresh_tables}
use Rattle.protocol.specs.Leases.{server_alive, client_alive, client_clock, guard_passed, end_over}
use Rattle.protocol.specs.Writes.{waits, latest_end, opened, awaited, notified, waited, ready, due, deserted, posted, released, completed, settled, settling, written, clock_set, aged_in, aged, delayed, delays}
use Rattle.protocol.specs.Server.{noted, offered, lowest_waited, volume_renewed, object_renewed, granted, must_drop, renewed_by, renewed, ack_taken, acked, ack_staged, drop_taken, disowned, dropped, drop_staged, server_restarted, notes_cleared, notes_dropped, clear_taken, batched}
use Rattle.protocol.specs.Client.{showable, stands, forgotten, swept, swept_all}
use Rattle.protocol.specs.Sound.{queue_sound, tables_sound, copies_sound, requests_sound, sound}
use Rattle.protocol.specs.Answers.{answer_number, answer_value}
use Rattle.protocol.specs.Gate.{known, exists, timely, vacant, growable, refusal_of_step, refusal}
use Rattle.protocol.specs.Decide.{grant_received, invalidate_received, offer_received, received, read_decided, ask_decided, deliver_decided, performed, decided, batch_received}
use Rattle.protocol.specs.World.{target, decision, stepped}
use Rattle.protocol.specs.Saved.{fresh_machine, saved_sound, known_kind, named, refusal_in, answer_to, moved, answers_to}
use Rattle.protocol.specs.SavedEdges.{save, return}
use Rattle.protocol.specs.Line.{Entry, entries_from, present_line, steps_in, answers_in, accounted, accounts_from, accounts}
use Rattle.protocol.specs.Edges.{tiny, step, clock, write}
use Rattle.protocol.specs.Ledger.{acceptance, completion, showing, clock_step, happening, events, book, book_all, books_after}
use Rattle.protocol.specs.History.{told, history_from, history, reported_in}
use Rattle.laws.specs.Sets as sets
use Rattle.laws.specs.Sets.{all_in, set_of, added, less, bit_at}
use Rattle.promises.specs.SavedRun.{saved_there, branch_again}

pub branch_abandoned : (map answer_number (answers_to tiny (fresh_machine tiny) (saved_there ++ branch_again))
    ≡ 0 ∷ 0 ∷ 0 ∷ 0 ∷ 0 ∷ 0 ∷ 0 ∷ 1 ∷ 0 ∷ 0 ∷ 0 ∷ 0 ∷ 3 ∷ 0 ∷ 0 ∷ 0 ∷ 1 ∷ 0 ∷ 0 ∷ 1 ∷ 0 ∷ 4 ∷ 4 ∷ 0 ∷ 1 ∷ [])
    × (map answer_value (answers_to tiny (fresh_machine tiny) (saved_there ++ branch_again))
    ≡ 0 ∷ 0 ∷ 0 ∷ 0 ∷ 0 ∷ 0 ∷ 0 ∷ 0 ∷ 0 ∷ 0 ∷ 0 ∷ 0 ∷ 1 ∷ 0 ∷ 0 ∷ 0 ∷ 7 ∷ 0 ∷ 0 ∷ 0 ∷ 0 ∷ 11 ∷ 11 ∷ 0 ∷ 7 ∷ [])
unfolding saved_there branch_again save return answers_to answer_to moved refusal_in saved_sound known_kind named tiny step clock write told history_from events happening fold_from any_from all_from first_from remove_at store_each greatest in_range pushed removed fresh_tables server_alive client_alive client_clock guard_passed end_over waits latest_end opened awaited notified waited ready due deserted posted released completed settled settling written noted offered lowest_waited volume_renewed object_renewed granted must_drop renewed_by renewed ack_taken acked ack_staged drop_taken disowned dropped drop_staged server_restarted showable stands forgotten swept swept_all queue_sound tables_sound copies_sound requests_sound sound known exists timely vacant growable refusal_of_step refusal grant_received invalidate_received offer_received received read_decided ask_decided deliver_decided performed decided target decision stepped bit_at less added set_of all_in objects_in delays delayed aged aged_in clock_set batched clear_taken notes_dropped notes_cleared batch_received sets.removed
branch_abandoned = (refl, refl)

-- Before, the line goes from the save of 2 to after the return, and nothing of the branch is told or booked: its completion was reported in step 13 of the
-- list and is in no answer of the line. Afterwards it goes through the branch.
pub told_along : (map (λ (e : Entry). e.number) (present_line tiny saved_there) ≡ 1 ∷ 2 ∷ 3 ∷ 4 ∷ 5 ∷ 6 ∷ 7 ∷ 8 ∷ 20 ∷ 21 ∷ [])
    × (history tiny (steps_in (present_line tiny saved_there)) ≡ clock_step 4 ∷ showing 0 0 0 ∷ showing 0 0 0 ∷ [])
    × (reported_in (answers_to tiny (fresh_machine tiny) saved_there) ≡ 1)
    × (reported_in (answers_in (present_line tiny saved_there)) ≡ 0)
    × ((accounts tiny saved_there).now.ledger.completed_count ≡ 0)
    × (map (λ (e : Entry). e.number) (present_line tiny (saved_there ++ branch_again))
    ≡ 1 ∷ 2 ∷ 3 ∷ 4 ∷ 5 ∷ 6 ∷ 7 ∷ 8 ∷ 10 ∷ 11 ∷ 12 ∷ 13 ∷ 14 ∷ 15 ∷ 16 ∷ 17 ∷ 25 ∷ [])
    × (history tiny (steps_in (present_line tiny (saved_there ++ branch_again)))
    ≡ showing 0 0 7 ∷ showing 0 0 7 ∷ completion 0 ∷ acceptance 0 7 10 ∷ clock_step 5 ∷ showing 0 0 0 ∷ [])
    × ((accounts tiny (saved_there ++ branch_again)).now.ledger.completed_count ≡ 1)
unfolding entries_from along accounts_from accounted books_after book_all book reported_in saved_there branch_again save return answers_to answer_to moved refusal_in saved_sound known_kind named tiny step clock write told history_from events happening fold_from any_from all_from first_from remove_at store_each greatest in_range pushed removed fresh_tables server_alive client_alive client_clock guard_passed end_over waits latest_end opened awaited notified waited ready due deserted posted released completed settled settling written noted offered lowest_waited volume_renewed object_renewed granted must_drop renewed_by renewed ack_taken acked ack_staged drop_taken disowned dropped drop_staged server_restarted showable stands forgotten swept swept_all queue_sound tables_sound copies_sound requests_sound sound known exists timely vacant growable refusal_of_step refusal grant_received invalidate_received offer_received received read_decided ask_decided deliver_decided performed decided target decision stepped bit_at less added set_of all_in objects_in delays delayed aged aged_in clock_set batched clear_taken notes_dropped notes_cleared batch_received sets.removed
told_along = (refl, refl, refl, refl, refl, refl, refl, refl)
