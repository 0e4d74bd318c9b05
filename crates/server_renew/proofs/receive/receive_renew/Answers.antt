use native.Mathlib.Omega.{arith}
use Rattle.protocol.proofs.Ranges.{ranges}
use Rattle.server_renew.proofs.Noting.{renew_old, renew_new, noted_clock, noted_grows}
use Rattle.server_renew.proofs.receive.receive_renew.Goals as goal

pub bounds-words-renew : goal.bounds-words-renew
bounds-words-renew c = omega (arith, c.requires.client_lt_clients, (ranges _ c.requires.setup_value).clients.1)

pub returns-then-renew-words : goal.returns-then-renew-words
returns-then-renew-words c =
    let all = renew_old _ _ _ _ _ (omega (arith, c.requires.client_lt_clients, (ranges _ c.requires.setup_value).clients.1)) _ _ _ c.if-renew-words.true in
    record {
      values_after = all.0;
      values_unchanged = all.1;
    }

pub bounds-words-renew-2 : goal.bounds-words-renew-2
bounds-words-renew-2 c = omega (arith, c.requires.client_lt_clients, (ranges _ c.requires.setup_value).clients.1)

pub renew_by-requires : goal.renew_by-requires
renew_by-requires c = record {
  setup_value = c.requires.setup_value;
  values_bound = rw (noted_clock c.args.setup c.args.words.now c.args.values.now c.args.renew.client
      c.args.renew.number (omega (arith, c.requires.client_lt_clients, (ranges _ c.requires.setup_value).clients.1))) c.requires.values_bound;
  growing = noted_grows _ _ _ _ _ (omega (arith, c.requires.client_lt_clients, (ranges _ c.requires.setup_value).clients.1)) c.requires.growing;
  client_lt_clients = c.requires.client_lt_clients;
  object_lt_objects = c.requires.object_lt_objects;
}

pub returns : goal.returns
returns c =
    let all = renew_new _ _ _ _ _ (omega (arith, c.requires.client_lt_clients, (ranges _ c.requires.setup_value).clients.1)) _ _ _ _ _ c.if-renew-words.false
    (c.renew_by.ensures.values_after, c.renew_by.ensures.values_unchanged) in
    record {
      values_after = all.0;
      values_unchanged = all.1;
    }
