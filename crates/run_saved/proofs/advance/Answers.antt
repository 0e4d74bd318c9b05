use mathlib.Core.Path.{sym, ◌∙◌}
use Rattle.run_saved.proofs.Laws.{other}
use Rattle.run_saved.proofs.advance.Goals as goal

pub by_name-requires : goal.by_name-requires
by_name-requires c = sym c.uses_name.ensures ∙ c.if-uses_name.true

pub returns-then-uses_name : goal.returns-then-uses_name
returns-then-uses_name c = c.by_name.ensures _ c.requires.setup_value c.requires.sound_machine

pub returns : goal.returns
returns c =
    other _ _ _ _ _ _ c.requires.setup_value c.requires.sound_machine (sym c.uses_name.ensures ∙ c.if-uses_name.false) _ _ _
    (c.advance.ensures.value, c.advance.ensures.values_after)
