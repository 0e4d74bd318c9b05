use Rattle.client_receive.proofs.Receiving.{offer_yes}
use Rattle.client_receive.proofs.receive.offer.Goals as goal

pub returns : goal.returns
returns c =
    let all = offer_yes _ _ _ _ _ _ _ _ c.stands.ensures _ _ _ _ c.requires.client_bound c.requires.volume_bound c.if-not-stands.false c.put.ensures
    (c.push.ensures.values_after, c.push.ensures.values_unchanged) c.swept.ensures in
    record {
      values_after = all.0;
      values_unchanged = all.1;
    }
