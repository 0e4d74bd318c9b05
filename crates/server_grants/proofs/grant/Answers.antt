use native.Mathlib.Omega.{arith}
use Rattle.protocol.proofs.Ranges.{ranges}
use Rattle.state_words.proofs.ReadsLaws.{clock_word}
use Rattle.server_grants.proofs.Granting.{grants}
use Rattle.server_grants.proofs.grant.Goals as goal

pub overflow_add-volume_expiry : goal.overflow_add-volume_expiry
overflow_add-volume_expiry c = omega (arith, (ranges _ c.requires.setup_value).tv.1, c.requires.values_bound, clock_word c.args.words.now c.args.values.now)

pub overflow_add-object_expiry : goal.overflow_add-object_expiry
overflow_add-object_expiry c =
    omega (arith, (ranges _ c.requires.setup_value).t.1, c.requires.values_bound, clock_word c.args.words.now c.args.values.now)

pub returns : goal.returns
returns c =
    let all = grants _ _ _ _ _ _ _ _ _ _ _ c.volume_of-volume.ensures c.requires.client_bound c.granting-message.ensures (c.push.ensures.values_after, c.push.ensures.values_unchanged) in
    record {
      values_after = all.0;
      values_unchanged = all.1;
    }
