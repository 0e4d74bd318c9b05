use Rattle.server_due.proofs.Tests.{by_clock, by_volume_law, by_other}
use Rattle.server_due.proofs.triggered.Goals as goal

pub returns-then-volume_of-volume : goal.returns-then-volume_of-volume
returns-then-volume_of-volume c = search (by_volume_law, c.ready.ensures)

pub returns-in-Clock : goal.returns-in-Clock
returns-in-Clock c = search (by_clock, c.due.ensures)

pub returns-else-volume_of-volume : goal.returns-else-volume_of-volume
returns-else-volume_of-volume c = search (by_other, c.if-volume_of-volume.false)
