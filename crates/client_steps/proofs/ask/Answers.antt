use Rattle.client_steps.proofs.Stepping.{asks}
use Rattle.client_steps.proofs.ask.Goals as goal

pub returns : goal.returns
returns c =
    let all = asks _ _ _ _ _ _ _ _ c.requires.client_lt_clients c.volume_of-volume.ensures _ _ (c.push.ensures.values_after, c.push.ensures.values_unchanged) in
    record {
      values_after = all.0;
      values_unchanged = all.1;
    }
