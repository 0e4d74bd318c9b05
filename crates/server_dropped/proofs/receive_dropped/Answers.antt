use native.Mathlib.Omega.{arith}
use Rattle.protocol.proofs.Ranges.{ranges}
use Rattle.protocol.specs.Server.{of_volume}
use borrow.Author.Rules.{rules}
use Rattle.server_dropped.proofs.Dropping.{in_volume, drop_grows, drop_yes, drop_no}
use Rattle.server_dropped.proofs.receive_dropped.Goals as goal

pub drop_taken-requires : goal.drop_taken-requires
drop_taken-requires c = record {
  client_bound = (omega (arith, c.requires.client_lt_clients, (ranges _ c.requires.setup_value).clients.1));
  volume_bound = (omega (arith, c.requires.volume_lt_volumes, (ranges _ c.requires.setup_value).volumes.1));
}

pub bounds-words-client : goal.bounds-words-client
bounds-words-client c =
    omega (arith, c.requires.client_lt_clients, c.requires.volume_lt_volumes, (ranges _ c.requires.setup_value).clients.1, (ranges _ c.requires.setup_value).volumes.1)

pub bounds-words-client-then-drop_taken : goal.bounds-words-client-then-drop_taken
bounds-words-client-then-drop_taken c =
    omega (arith, c.requires.client_lt_clients, c.requires.volume_lt_volumes, (ranges _ c.requires.setup_value).clients.1, (ranges _ c.requires.setup_value).volumes.1)

pub bounds-words-client-then-drop_taken-2 : goal.bounds-words-client-then-drop_taken-2
bounds-words-client-then-drop_taken-2 c =
    omega (arith, c.requires.client_lt_clients, c.requires.volume_lt_volumes, (ranges _ c.requires.setup_value).clients.1, (ranges _ c.requires.setup_value).volumes.1)

pub settle-requires : goal.settle-requires
settle-requires c = record {
  setup_value = c.requires.setup_value;
  growing = drop_grows _ _ c.args.values.now _ _ _ _ (omega (arith, c.requires.client_lt_clients, (ranges _ c.requires.setup_value).clients.1))
      (omega (arith, c.requires.volume_lt_volumes, (ranges _ c.requires.setup_value).volumes.1)) (omega (arith, (ranges _ c.requires.setup_value).objects.1))
      (c.clear.ensures (of_volume c.args.setup c.args.volume) (λ o r l k. search (rules, in_volume))) c.stop_waiting.ensures c.requires.growing;
}

pub returns-then-drop_taken : goal.returns-then-drop_taken
returns-then-drop_taken c = let all = drop_yes _ _ _ _ _ _ _ (omega (arith, c.requires.client_lt_clients, (ranges _ c.requires.setup_value).clients.1))
    (omega (arith, c.requires.volume_lt_volumes, (ranges _ c.requires.setup_value).volumes.1))
    (omega (arith, (ranges _ c.requires.setup_value).objects.1)) (c.clear.ensures (of_volume c.args.setup c.args.volume) (λ o r l k. search (rules, in_volume))) c.stop_waiting.ensures
    _ _ _ _ _ _ c.drop_taken.ensures c.if-drop_taken.true (c.settle.ensures.values_after, c.settle.ensures.values_unchanged) in record { values_after = all.0; values_unchanged = all.1 }

pub returns-else-drop_taken : goal.returns-else-drop_taken
returns-else-drop_taken c = let all = drop_no _ _ _ _ _ _ _ _ c.drop_taken.ensures c.if-drop_taken.false in record { values_after = all.0; values_unchanged = all.1 }

pub clear-requires-clause-client_bound : goal.clear-requires-clause-client_bound
clear-requires-clause-client_bound c = omega (arith, c.requires.client_lt_clients, (ranges _ c.requires.setup_value).clients.1)

pub clear-requires-clause-n_bound : goal.clear-requires-clause-n_bound
clear-requires-clause-n_bound c = omega (arith, (ranges _ c.requires.setup_value).objects.1)
