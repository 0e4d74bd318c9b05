use mathlib.Core.Path.{refl}
use Rattle.step_deliver.proofs.Delivering.{renew_in, ack_in, dropped_in, cleared_in, serves_renew, serves_ack, serves_dropped, serves_cleared, serves_none}
use Rattle.step_deliver.proofs.by_server.Goals as goal

pub receive_renew-requires : goal.receive_renew-requires
receive_renew-requires c = record {
  setup_value = c.requires.setup_value;
  values_bound = c.requires.values_bound;
  growing = c.requires.growing;
  client_lt_clients = c.requires.client_lt_clients;
  object_lt_objects = renew_in _ _ c.requires.k_value _ _ _ _ c.in-Renew.is;
}

pub receive_ack-requires : goal.receive_ack-requires
receive_ack-requires c = record {
  setup_value = c.requires.setup_value;
  growing = c.requires.growing;
  client_lt_clients = c.requires.client_lt_clients;
  object_lt_objects = ack_in _ _ c.requires.k_value _ _ _ c.in-Ack.is;
}

pub receive_dropped-requires : goal.receive_dropped-requires
receive_dropped-requires c = record {
  setup_value = c.requires.setup_value;
  growing = c.requires.growing;
  client_lt_clients = c.requires.client_lt_clients;
  volume_lt_volumes = dropped_in _ _ c.requires.k_value _ _ _ c.in-Dropped.is;
}

pub receive_cleared-requires : goal.receive_cleared-requires
receive_cleared-requires c = record {
  setup_value = c.requires.setup_value;
  client_lt_clients = c.requires.client_lt_clients;
  volume_lt_volumes = cleared_in _ _ c.requires.k_value _ _ _ _ c.in-Cleared.is;
}

pub returns-in-Renew : goal.returns-in-Renew
returns-in-Renew c = record { values_after = serves_renew _ _ _ _ _ _ _ _ _ c.in-Renew.is c.receive_renew.ensures.values_after; values_unchanged = c.receive_renew.ensures.values_unchanged }

pub returns-in-Ack : goal.returns-in-Ack
returns-in-Ack c = record { values_after = serves_ack _ _ _ _ _ _ _ _ c.in-Ack.is c.receive_ack.ensures.values_after; values_unchanged = c.receive_ack.ensures.values_unchanged }

pub returns-in-Dropped : goal.returns-in-Dropped
returns-in-Dropped c = record { values_after = serves_dropped _ _ _ _ _ _ _ _ c.in-Dropped.is c.receive_dropped.ensures.values_after; values_unchanged = c.receive_dropped.ensures.values_unchanged }

pub returns-in-Cleared : goal.returns-in-Cleared
returns-in-Cleared c = record { values_after = serves_cleared _ _ _ _ _ _ _ _ _ c.in-Cleared.is (c.receive_cleared.ensures.by_index _); values_unchanged = c.receive_cleared.ensures.by_index_2 _ }

pub returns-in_default : goal.returns-in_default
returns-in_default c = record { values_after = serves_none _ _ _ _ c.in_default.in_default-own.keys5; values_unchanged = refl }
