use Rattle.std.proofs.Common.{refl, ap}
use Rattle.protocol.specs.declared.step.Decision.{Decision}
use Rattle.step_lent.proofs.Lending.{decides, turns, moves, keeps}
use Rattle.step_lent.proofs.step.Goals as goal

pub update-requires : goal.update-requires
update-requires c =
    turns _ _ _ _ _ _ _ _ c.target-at.ensures (decides _ _ _ _ _ _ _ _ _ _ _ _ _ c.sound-held.ensures c.sound-asked.ensures c.both-sound.ensures
    c.target-at.ensures c.look-c.ensures c.look-r.ensures c.decide-v.ensures.answer_after)

pub returns : goal.returns
returns c =
    let e = decides c.args.setup c.args.words.now c.args.values.now c.args.copies.now c.args.requests.now c.args.step _ _ _ _ _ _ _
    c.sound-held.ensures c.sound-asked.ensures c.both-sound.ensures c.target-at.ensures c.look-c.ensures c.look-r.ensures
    c.decide-v.ensures.answer_after in
    record {
      answers = ap (λ (z : Decision). z.outcome.answer) e;
      moves = moves _ _ _ _ _ _ _ _ c.target-at.ensures e _ _ _ _ _ refl c.change.ensures c.sweep.ensures c.update.ensures;
      refuses = λ r.
          let k = keeps _ _ _ _ _ _ _ _ c.target-at.ensures e c.decide-v.new.words c.decide-v.new.values _ _ _ refl c.change.ensures c.sweep.ensures
          c.update.ensures r in
          ((c.decide-v.ensures.words_unchanged r).0, ((c.decide-v.ensures.words_unchanged r).1, k));
      keeps = c.decide-v.ensures.values_unchanged;
    }
