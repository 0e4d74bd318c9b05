use Rattle.server_write.proofs.Accepting.{begun_version, sent_version, accepts}
use Rattle.server_write.proofs.accept.accept_write.Goals as goal

pub notify-requires : goal.notify-requires
notify-requires c =
    record {
      setup_value = c.requires.setup_value;
      object_lt_objects = c.requires.object_lt_objects;
      object_bound = rw (begun_version _ _ _ _ _ _ _ (c.begin.ensures.values_after, c.begin.ensures.values_unchanged)) c.requires.object_bound;
    }

pub settle_one-requires : goal.settle_one-requires
settle_one-requires c =
    record {
      setup_value = c.requires.setup_value;
      object_lt_objects = c.requires.object_lt_objects;
      object_bound = rw (sent_version _ _ _ _ _ _ _ (c.begin.ensures.values_after, c.begin.ensures.values_unchanged) _ _
          (c.notify.ensures.values_after, c.notify.ensures.values_unchanged)) c.requires.object_bound;
    }

pub returns : goal.returns
returns c =
    let all = accepts _ _ _ _ _ _ _ (c.begin.ensures.values_after, c.begin.ensures.values_unchanged) _ _ (c.notify.ensures.values_after, c.notify.ensures.values_unchanged) _ _ _
    (c.settle_one.ensures.values_after, c.settle_one.ensures.values_unchanged) in
    record {
      values_after = all.0;
      values_unchanged = all.1;
    }
