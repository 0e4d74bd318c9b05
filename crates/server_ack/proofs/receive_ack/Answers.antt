use native.Mathlib.Omega.{arith}
use Rattle.protocol.proofs.Ranges.{ranges}
use Rattle.server_ack.proofs.Acking.{grows_numbers, ack_version, ack_keeps, ack_yes, ack_no}
use Rattle.server_ack.proofs.receive_ack.Goals as goal

pub ack_taken-requires : goal.ack_taken-requires
ack_taken-requires c = record { setup_value = c.requires.setup_value; growing = grows_numbers _ _ c.args.values.now c.requires.growing; object_lt_objects = c.requires.object_lt_objects }

pub bounds-words-object : goal.bounds-words-object
bounds-words-object c = omega (arith, c.requires.object_lt_objects, (ranges _ c.requires.setup_value).objects.1)

pub without-requires : goal.without-requires
without-requires c = omega (arith, c.requires.client_lt_clients, (ranges _ c.requires.setup_value).clients.1)

pub bounds-words-object-then-ack_taken : goal.bounds-words-object-then-ack_taken
bounds-words-object-then-ack_taken c = omega (arith, c.requires.object_lt_objects, (ranges _ c.requires.setup_value).objects.1)

pub bounds-words-client : goal.bounds-words-client
bounds-words-client c = omega (arith, c.requires.client_lt_clients, c.requires.object_lt_objects, (ranges _ c.requires.setup_value).clients.1, (ranges _ c.requires.setup_value).objects.1)

pub settle_one-requires : goal.settle_one-requires
settle_one-requires c =
    let k = c.ack_taken.ensures in record {
      setup_value = c.requires.setup_value;
      object_lt_objects = c.requires.object_lt_objects;
      object_bound = rw (ack_keeps c.args.setup c.args.words.now c.args.values.now
          c.args.client c.args.object _ _ _ k _ (omega (arith, c.requires.client_lt_clients, (ranges _ c.requires.setup_value).clients.1))
          (omega (arith, c.requires.object_lt_objects, (ranges _ c.requires.setup_value).objects.1)) c.without.ensures)
          (ack_version c.args.setup c.args.words.now c.args.values.now
          c.args.client c.args.object _ _ _ k c.requires.growing c.requires.object_lt_objects c.if-ack_taken.true);
    }

pub returns-then-ack_taken : goal.returns-then-ack_taken
returns-then-ack_taken c = let all = ack_yes _ _ _
    _ _ _ _ _ c.ack_taken.ensures _ (omega (arith, c.requires.client_lt_clients, (ranges _ c.requires.setup_value).clients.1))
    (omega (arith, c.requires.object_lt_objects, (ranges _ c.requires.setup_value).objects.1))
    c.without.ensures _ _ _ c.if-ack_taken.true (c.settle_one.ensures.values_after, c.settle_one.ensures.values_unchanged) in record { values_after = all.0; values_unchanged = all.1 }

pub returns-else-ack_taken : goal.returns-else-ack_taken
returns-else-ack_taken c = let all = ack_no _ _ _ _ _ _ _ _ c.ack_taken.ensures c.if-ack_taken.false in record { values_after = all.0; values_unchanged = all.1 }
