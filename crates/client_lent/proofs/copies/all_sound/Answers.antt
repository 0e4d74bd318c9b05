use mathlib.Core.Path.{ap, sym, ◌∙◌}
use borrow.Author.Rules.{rules}
use Rattle.std.proofs.lemmas.List.{get_or_default}
use Rattle.laws.specs.Loop.{all_by, all_end}
use Rattle.protocol.specs.declared.records.Copy.{Copy}
use Rattle.protocol.specs.Tables.{no_copy}
use Rattle.protocol.specs.Sound.{time_fits}
use Rattle.client_lent.proofs.Laws.{all_listed}
use Rattle.client_lent.proofs.copies.all_sound.Goals as goal

pub loop-copy-preserved : goal.loop-copy-preserved
loop-copy-preserved c = (
  search rules,
  all_by _ _ _ _ _ _ c.loop-copy-test.true
      (c.copy_sound-ok.ensures ∙ ap (λ (x : Copy). time_fits x.expiry) (get_or_default _ _ _ _ c.loop-copy-test.true)) c.loop-copy.invariant.1,
)

pub returns : goal.returns
returns c =
    all_end _ _ _ _ _ c.loop-copy-test.false c.loop-copy.invariant.1 ∙ sym (all_listed (λ (x : Copy). time_fits x.expiry) no_copy c.args.copies.now)
