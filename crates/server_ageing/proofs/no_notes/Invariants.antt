use Rattle.laws.specs.Loop.{Scanning}
use Rattle.server_marks.specs.SessionWords.{sessions_of}
use Rattle.server_ageing.specs.NoNotes.{none_at}
use Rattle.server_ageing.proofs.no_notes.Given as goal

abbrev pub invariant-loop-i : goal.invariant-loop-i
invariant-loop-i l = Scanning (none_at (sessions_of l.words)) l.n l.ok l.i
