use native.Mathlib.Omega.{arith}
use mathlib.Core.List.{[]}
use Rattle.state_words.proofs.ReadsLaws.{version_word}
use Rattle.server_write.proofs.Laws.{invalidates}
use Rattle.server_write.proofs.invalidates.invalidation.Goals as goal

pub overflow_add-result-3 : goal.overflow_add-result-3
overflow_add-result-3 c = omega (arith, c.requires.object_bound, version_word c.args.words.now [] c.args.object c.volume_of-volume.ensures.object)

pub returns : goal.returns
returns c = invalidates _ _ _ _ c.volume_of-volume.ensures
