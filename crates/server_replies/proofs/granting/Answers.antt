use native.Mathlib.Omega.{arith}
use Rattle.protocol.proofs.Ranges.{ranges}
use Rattle.state_words.proofs.ReadsLaws.{clock_word}
use Rattle.server_replies.proofs.Replies.{sends_grant}
use Rattle.server_replies.proofs.granting.Goals as goal

pub overflow_add-result : goal.overflow_add-result
overflow_add-result c = omega (arith, (ranges _ c.requires.setup_value).tv.1, c.requires.values_bound, clock_word c.args.words.now c.args.values.now)

pub overflow_add-result-4 : goal.overflow_add-result-4
overflow_add-result-4 c =
    omega (arith, (ranges _ c.requires.setup_value).t.1, c.requires.values_bound, clock_word c.args.words.now c.args.values.now)

pub returns : goal.returns
returns c = sends_grant _ _ _ _ _ _ _ _ _ c.volume_of-volume.ensures c.payload-payload.ensures
