use mathlib.Core.Path.{ap, ◌∙◌}
use Rattle.laws.specs.Parts.{filling}
use Rattle.state_words.specs.Fields.{at, STANDING, END}
use Rattle.server_restart.proofs.clear_objects.Goals as goal

pub returns : goal.returns
returns c = c.fill-3.ensures ∙ ap (filling (at END) 32 0) (c.fill-2.ensures ∙ ap (filling (at STANDING) 32 0) c.fill.ensures)
