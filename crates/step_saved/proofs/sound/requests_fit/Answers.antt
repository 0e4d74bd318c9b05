use Rattle.std.proofs.Common.{◌∙◌, ℕ, Bool, get_or, refl, arith, rules, tests}
use Rattle.std.proofs.lemmas.Iterator.{YieldsList-from_range}
use Rattle.std.proofs.lemmas.Iterator.Search.{all_from_yields_List}
use Rattle.protocol.specs.Sound.{request_sound}
use Rattle.protocol.specs.Tables.{no_request}
use Rattle.state_words.specs.View.{requests_of}
use Rattle.step_saved.proofs.Sounding.{all_listed}
use Rattle.step_saved.proofs.sound.requests_fit.Goals as goal

pub returns : goal.returns
returns c =
    let test : ℕ → Bool = λ (d : ℕ). request_sound c.args.setup (get_or (requests_of c.args.words.now) d no_request) in
    all_from_yields_List test _ _ _ c.all.ensures.ran (YieldsList-from_range 0 _ c.args.n refl (omega arith)) (λ k b q h. search (rules, tests))
    ∙ all_listed test 0 c.args.n
