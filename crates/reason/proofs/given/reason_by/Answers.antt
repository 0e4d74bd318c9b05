use Rattle.state_words.specs.View.{world_of}
use Rattle.reason.proofs.Laws.{reasoned}
use Rattle.reason.proofs.given.reason_by.Goals as goal

pub returns-in-Some : goal.returns-in-Some
returns-in-Some c =
    rw c.in-Some.is
    (reasoned c.args.setup c.args.read _ c.target_at-at.ensures (world_of c.args.setup c.args.words.now c.args.values.now) c.in-Some.field-0 _ _ _
    c.copy_of-copy.ensures c.view_until-view.ensures c.why_by.ensures)
