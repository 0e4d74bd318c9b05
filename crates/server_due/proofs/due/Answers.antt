use native.Mathlib.Omega.{arith}
use Rattle.protocol.proofs.Ranges.{ranges}
use Rattle.server_due.proofs.Tests.{due_ready, due_over}
use Rattle.server_due.proofs.due.Goals as goal

pub returns-then-ready : goal.returns-then-ready
returns-then-ready c = search (due_ready, c.ready.ensures)

pub bounds-words-object : goal.bounds-words-object
bounds-words-object c = omega (arith, (ranges _ c.requires.setup_value).objects.1)

pub bounds-words-object-2 : goal.bounds-words-object-2
bounds-words-object-2 c = omega (arith, (ranges _ c.requires.setup_value).objects.1)

pub returns : goal.returns
returns c =
    due_over _ _ _ _ c.ready.ensures _ (omega (arith, (ranges _ c.requires.setup_value).objects.1)) c.if-ready.false c.end_over-over.ensures
