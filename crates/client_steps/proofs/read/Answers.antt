use Rattle.client_steps.proofs.Stepping.{read_shown, read_first}
use Rattle.client_steps.proofs.read.Goals as goal

pub returns-then-showable : goal.returns-then-showable
returns-then-showable c = read_shown _ _ _ _ _ _ _ c.requires.client_lt_clients c.volume_of-volume.ensures c.showable.ensures c.if-showable.true

pub returns-else-showable : goal.returns-else-showable
returns-else-showable c = read_first _ _ _ _ _ _ _ c.requires.client_lt_clients c.volume_of-volume.ensures c.showable.ensures c.if-showable.false
