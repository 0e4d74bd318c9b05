use Rattle.std.proofs.Common.{◌≡◌, ◌∙◌, refl, ap, true, false, rules}
use Rattle.protocol.specs.Answers.{answer_number, answer_value}
use Rattle.step_saved.specs.Applied.{plan_fits}
use Rattle.step_saved.specs.Sound.{all_sound}
use Rattle.step_numbers.proofs.Numbers.{number_is, value_is}
use Rattle.step.specs.Lent.{machine}
use Rattle.step.proofs.Laws.{unsound_called, plan_is, leaves, met}
use Rattle.step.proofs.step.Goals as goal

pub returns-then-not-all : goal.returns-then-not-all
returns-then-not-all c =
    let a = c.args in
    let q = machine a.setup a.words.now a.values.now a.copies.now a.requests.now a.saved.now a.saved_values.now in
    let f : all_sound a.setup a.saved.now a.saved_values.now ≡ false = search rules in
    let h = unsound_called a.setup a.words.now a.values.now a.copies.now a.requests.now a.saved.now a.saved_values.now a.step f in
    record {
      calls = rw c.from.ensures h;
      numbers = ap answer_number h.answers ∙ number_is a.setup q a.step;
      values = rw c.from.ensures (ap answer_value h.answers ∙ value_is a.setup q a.step);
      refuses = λ _. record { words = refl; values = refl; copies = refl; requests = refl; saved = refl; saved_values = refl };
      keeps = λ _. refl;
    }

pub apply-requires : goal.apply-requires
apply-requires c = rw c.planned-p.ensures (plan_fits _ _ _ _)

pub returns : goal.returns
returns c =
    let a = c.args in
    let q = machine a.setup a.words.now a.values.now a.copies.now a.requests.now a.saved.now a.saved_values.now in
    let f : all_sound a.setup a.saved.now a.saved_values.now ≡ true = search rules in
    let e = plan_is a.setup a.words.now a.values.now a.copies.now a.requests.now a.saved.now a.saved_values.now a.step _ _
    c.step-a.ensures.answers c.planned-p.ensures in
    let h = met a.setup a.words.now a.values.now a.copies.now a.requests.now a.saved.now a.saved_values.now a.step _ _ _ _ _ _
    (leaves _ _ _ _ _ _ _ _ _ _ c.step-a.ensures.answers c.planned-p.ensures
    c.step-a.new.words c.step-a.new.values c.step-a.new.copies c.step-a.new.requests c.to_words.new.words c.to_words.new.values
    c.to_words-2.new.words c.apply.new.words c.apply.new.values c.from_words.new.copies c.from_words-2.new.requests c.apply.new.saved
    c.apply.new.saved_values c.step-a.ensures.moves c.step-a.ensures.refuses c.step-a.ensures.keeps c.to_words.ensures.values_unchanged
    c.to_words.ensures.values_after c.to_words.ensures.words_unchanged c.to_words-2.ensures.by_index c.to_words-2.ensures.by_index_2
    c.to_words-2.ensures.words_unchanged c.apply.ensures c.from_words.ensures c.from_words-2.ensures) f in
    record {
      calls = rw e h.calls;
      numbers = rw e (ap answer_number h.calls.answers ∙ number_is a.setup q a.step);
      values = rw e (ap answer_value h.calls.answers ∙ value_is a.setup q a.step);
      refuses = rw e h.refuses;
      keeps = h.keeps;
    }
