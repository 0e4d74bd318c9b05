-- 02, A7: the edges of its questions and of what a save and a return leave, one table of equations computed by one theorem.
-- Letters: q a machine, n a name, x a step, t tables.
use Rattle.std.specs.Prelude.{refl}
use Rattle.laws.specs.Loop.{fold_from, any_from, all_from}
use Rattle.laws.specs.Sets.{bit_at, all_in}
use Rattle.protocol.specs.Setup.{in_range}
use Rattle.protocol.specs.Tables.{fresh_tables}
use Rattle.protocol.specs.Leases.{guard_passed, end_over}
use Rattle.protocol.specs.Writes.{waited, due, settled, aged_in, aged, clock_set}
use Rattle.protocol.specs.Client.{swept, swept_all}
use Rattle.protocol.specs.Sound.{queue_sound, tables_sound, copies_sound, requests_sound, sound}
use Rattle.protocol.specs.Gate.{known, exists, timely, vacant, growable, refusal_of_step, refusal}
use Rattle.protocol.specs.Decide.{performed, decided}
use Rattle.protocol.specs.World.{target, decision, stepped}
use Rattle.protocol.specs.Edges.{tiny, step, clock, lose}
use Rattle.protocol.specs.Saved.{saved_sound, known_kind, named, refusal_in, moved, moved_by}
use Rattle.protocol.specs.SavedEdges.{save, return, fresh, after, refused, clock_of, clock_under, saved_clock, too_late, unsound_now, unsound_saved, SavedTable}

pub saved_edges : SavedTable
unfolding SavedTable tiny step clock lose save return fresh after refused clock_of clock_under saved_clock too_late unsound_now unsound_saved fold_from any_from all_from in_range fresh_tables guard_passed end_over waited due settled swept swept_all queue_sound tables_sound copies_sound requests_sound sound known exists timely vacant growable refusal_of_step refusal performed decided target decision stepped saved_sound known_kind named refusal_in moved moved_by all_in bit_at clock_set aged aged_in
saved_edges = (refl, refl, refl, refl, refl, refl, refl, refl, refl, refl, refl, refl, refl, refl, refl, refl, refl, refl, refl, refl, refl, refl, refl, refl)
