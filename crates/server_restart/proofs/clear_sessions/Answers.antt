use mathlib.Core.Path.{ap, ◌∙◌}
use Rattle.laws.specs.Parts.{filling}
use Rattle.state_words.specs.Fields.{at, SESSION_EXPIRY, UNREACHABLE, OFFER, NOTES, BATCH}
use Rattle.server_restart.proofs.clear_sessions.Goals as goal

pub returns : goal.returns
returns c =
    c.fill-6.ensures
    ∙ ap (filling (at BATCH) 128 0) (c.fill-5.ensures ∙ ap (filling (at NOTES) 128 0) (c.fill-4.ensures
    ∙ ap (filling (at OFFER) 128 0) (c.fill-3.ensures ∙ ap (filling (at UNREACHABLE) 128 0)
    (c.fill-2.ensures ∙ ap (filling (at SESSION_EXPIRY) 128 0) c.fill.ensures))))
