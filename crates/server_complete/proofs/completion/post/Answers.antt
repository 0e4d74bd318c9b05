use native.Mathlib.Omega.{arith}
use Rattle.state_words.proofs.ReadsLaws.{version_word}
use Rattle.server_complete.proofs.Completing.{posts}
use Rattle.server_complete.proofs.completion.post.Goals as goal

pub overflow_add-words-2 : goal.overflow_add-words-2
overflow_add-words-2 c = omega (arith, version_word c.args.words.now c.args.values.now c.args.object c.requires.object_bound, c.requires.object_bound_2)

pub returns : goal.returns
returns c = let all = posts _ _ _ c.requires.object_bound in record { values_after = all.0; values_unchanged = all.1 }
