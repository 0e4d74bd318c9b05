use native.Mathlib.Omega.{arith}
use mathlib.Core.Path.{refl}
use Rattle.protocol.proofs.Ranges.{ranges}
use Rattle.state_words.proofs.ReadsLaws.{clock_word}
use Rattle.server_write.proofs.Accepting.{begins}
use Rattle.server_write.proofs.accept.begin.Goals as goal

pub overflow_add-words : goal.overflow_add-words
overflow_add-words c = omega (arith, (ranges _ c.requires.setup_value).m.1, c.requires.values_bound, clock_word c.args.words.now c.args.values.now)

pub returns : goal.returns
returns c = let all = begins _ _ _ _ _ _ _ _ _ _ c.volume_of-volume.ensures refl c.awaited-waiting.ensures c.max-least.ensures
    c.latest_end-end.ensures (c.delay.ensures.words_after, c.delay.ensures.only_sessions) _ in record { values_after = all.0; values_unchanged = all.1 }
