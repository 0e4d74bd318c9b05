use Rattle.std.proofs.Common.{◌∙◌, ℕ, Bool, [], get_or, refl, arith, rules, tests}
use Rattle.std.proofs.lemmas.Iterator.{YieldsList-from_range}
use Rattle.std.proofs.lemmas.Iterator.Search.{all_from_yields_List}
use Rattle.protocol.specs.Saved.{names, sound_under}
use Rattle.state_words.specs.Saved.{saved_in}
use Rattle.step_saved.proofs.Sounding.{all_listed}
use Rattle.step_saved.specs.Sound.{all_sound}
use Rattle.step_saved.proofs.sound.all.Goals as goal

pub returns : goal.returns
unfolding all_sound
returns c =
    let test : ℕ → Bool = λ (n : ℕ). sound_under c.args.setup (saved_in c.args.setup (get_or c.args.saved.now n []) (get_or c.args.saved_values.now n [])) in
    all_from_yields_List test _ _ _ c.all.ensures.ran (YieldsList-from_range 0 _ names refl (omega arith)) (λ k b q h. search (rules, tests))
    ∙ all_listed test 0 names
