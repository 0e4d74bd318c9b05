use mathlib.Core.Path.{ap, ◌∙◌}
use Rattle.laws.specs.Parts.{filling}
use Rattle.state_words.specs.Fields.{at, WAITING}
use Rattle.server_restart.proofs.clear_holders.Goals as goal

pub returns : goal.returns
returns c = c.fill-2.ensures ∙ ap (filling (at WAITING) 32 0) c.fill.ensures
