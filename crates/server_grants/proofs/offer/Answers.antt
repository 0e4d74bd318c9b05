use Rattle.server_grants.proofs.Granting.{offers}
use Rattle.server_grants.proofs.offer.Goals as goal

pub returns : goal.returns
returns c =
    let all = offers _ _ _ _ _ _ _ _ c.requires.client_bound c.requires.volume_bound _ (c.mark.ensures.words_after, c.mark.ensures.only_sessions) c.offering-message.ensures
    (c.push.ensures.values_after, c.push.ensures.values_unchanged) in
    record {
      values_after = all.0;
      values_unchanged = all.1;
    }
