use mathlib.Core.Path.{ap, sym, ◌∙◌}
use borrow.Author.Rules.{rules}
use Rattle.std.proofs.lemmas.List.{get_or_default}
use Rattle.laws.specs.Loop.{all_by, all_end}
use Rattle.protocol.specs.Tables.{no_request}
use Rattle.protocol.specs.Sound.{request_sound}
use Rattle.client_lent.proofs.Laws.{all_listed}
use Rattle.client_lent.proofs.requests.all_sound.Goals as goal

pub loop-request-preserved : goal.loop-request-preserved
loop-request-preserved c = (
  search rules,
  all_by _ _ _ _ _ _ c.loop-request-test.true
      (c.request_sound-ok.ensures ∙ ap (request_sound c.args.setup) (get_or_default _ _ _ _ c.loop-request-test.true)) c.loop-request.invariant.1,
)

pub returns : goal.returns
returns c =
    all_end _ _ _ _ _ c.loop-request-test.false c.loop-request.invariant.1 ∙ sym (all_listed (request_sound c.args.setup) no_request c.args.requests.now)
