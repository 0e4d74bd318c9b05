use native.Mathlib.Omega.{arith}
use mathlib.Core.Path.{refl}
use Rattle.protocol.proofs.Ranges.{ranges}
use borrow.Author.Rules.{rules}
use Rattle.laws.specs.Sets.{bit_at}
use Rattle.server_cleared.proofs.Clearing.{records_cleared, clear_yes, clear_no}
use Rattle.server_cleared.proofs.receive_cleared.Goals as goal

pub clear_taken-requires : goal.clear_taken-requires
clear_taken-requires c = record {
  client_bound = (omega (arith, c.requires.client_lt_clients, (ranges _ c.requires.setup_value).clients.1));
  volume_bound = (omega (arith, c.requires.volume_lt_volumes, (ranges _ c.requires.setup_value).volumes.1));
}

pub bounds-words-i : goal.bounds-words-i
bounds-words-i c =
    omega (arith, c.requires.client_lt_clients, c.requires.volume_lt_volumes, (ranges _ c.requires.setup_value).clients.1, (ranges _ c.requires.setup_value).volumes.1)

pub bounds-words-i-then-clear_taken : goal.bounds-words-i-then-clear_taken
bounds-words-i-then-clear_taken c =
    omega (arith, c.requires.client_lt_clients, c.requires.volume_lt_volumes, (ranges _ c.requires.setup_value).clients.1, (ranges _ c.requires.setup_value).volumes.1)

pub bounds-words-i-then-clear_taken-2 : goal.bounds-words-i-then-clear_taken-2
bounds-words-i-then-clear_taken-2 c =
    omega (arith, c.requires.client_lt_clients, c.requires.volume_lt_volumes, (ranges _ c.requires.setup_value).clients.1, (ranges _ c.requires.setup_value).volumes.1)

pub clear-requires-clause-client_bound : goal.clear-requires-clause-client_bound
clear-requires-clause-client_bound c = omega (arith, c.requires.client_lt_clients, (ranges _ c.requires.setup_value).clients.1)

pub clear-requires-clause-n_bound : goal.clear-requires-clause-n_bound
clear-requires-clause-n_bound c = omega (arith, (ranges _ c.requires.setup_value).objects.1)

pub clear-requires-clause-callable : goal.clear-requires-clause-callable
clear-requires-clause-callable c = λ o l. omega (arith, (ranges _ c.requires.setup_value).objects.1)

pub returns-then-clear_taken : goal.returns-then-clear_taken
returns-then-clear_taken c = record {
  by_index = (λ x. clear_yes _ _ _ _ _ _ _ (omega (arith, c.requires.client_lt_clients, (ranges _ c.requires.setup_value).clients.1))
      (omega (arith, c.requires.volume_lt_volumes, (ranges _ c.requires.setup_value).volumes.1))
      (omega (arith, (ranges _ c.requires.setup_value).objects.1)) c.less-notes.ensures
      (c.clear.ensures (bit_at c.args.set) (λ o r l k. search rules)) x _ _ _ c.clear_taken.ensures c.if-clear_taken.true);
  by_index_2 = (λ x. records_cleared c.args.setup _ _ _ _ _ _ (omega (arith, c.requires.client_lt_clients, (ranges _ c.requires.setup_value).clients.1))
      (omega (arith, c.requires.volume_lt_volumes, (ranges _ c.requires.setup_value).volumes.1))
      (omega (arith, (ranges _ c.requires.setup_value).objects.1)) c.less-notes.ensures (c.clear.ensures (bit_at c.args.set) (λ o r l k. search rules)) x);
}

pub returns-else-clear_taken : goal.returns-else-clear_taken
returns-else-clear_taken c = record { by_index = (λ x. clear_no _ _ x _ _ _ _ _ _ c.clear_taken.ensures c.if-clear_taken.false); by_index_2 = (λ x. refl) }
