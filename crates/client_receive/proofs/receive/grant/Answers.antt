use Rattle.client_receive.proofs.Receiving.{grant_yes}
use Rattle.client_receive.proofs.receive.grant.Goals as goal

pub returns : goal.returns
returns c =
    let all = grant_yes _ _ _ _ _ _ _ c.args.g _ c.stands.ensures _ _ _ c.requires.client_lt_clients c.volume_of-volume.ensures c.if-not-stands.false c.put.ensures c.store_grant.ensures in
    record {
      values_after = all.0;
      values_unchanged = all.1;
    }
