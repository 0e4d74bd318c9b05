use Rattle.server_grants.proofs.Granting.{batches}
use Rattle.server_grants.proofs.batch.Goals as goal

pub returns : goal.returns
returns c =
    let all = batches _ _ _ _ _ _ _ _ c.requires.client_bound c.requires.volume_bound c.batching-message.ensures (c.push.ensures.values_after, c.push.ensures.values_unchanged) in
    record {
      values_after = all.0;
      values_unchanged = all.1;
    }
