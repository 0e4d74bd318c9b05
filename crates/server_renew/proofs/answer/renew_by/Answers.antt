use native.Mathlib.Omega.{arith}
use Rattle.protocol.proofs.Ranges.{ranges}
use Rattle.server_renew.proofs.Reading.{noted_there, not_noted, low_version, stands, rests}
use Rattle.server_renew.proofs.Rules.{by_offer, by_batch, by_resend, by_hold, by_grant}
use Rattle.server_renew.proofs.answer.renew_by.Goals as goal

pub returns-then-must_drop : goal.returns-then-must_drop
returns-then-must_drop c =
    let all = by_offer _ _ _ _ _ _ _ _ _ _ c.volume_of-volume.ensures c.must_drop.ensures _ _ c.if-must_drop.true (c.offer.ensures.values_after, c.offer.ensures.values_unchanged) in
    record {
      values_after = all.0;
      values_unchanged = all.1;
    }

pub returns-then-words-client-ne0 : goal.returns-then-words-client-ne0
returns-then-words-client-ne0 c =
    let p = c.volume_of-volume.ensures in let all = by_batch _ _ _ _ _ _ _ _ _ _ p c.must_drop.ensures
    _ _ c.if-must_drop.false (noted_there _ _ _ _ (omega (arith, c.requires.client_lt_clients, (ranges _ c.requires.setup_value).clients.1))
    p.volume c.if-words-client-ne0.true) (c.batch.ensures.values_after, c.batch.ensures.values_unchanged) in record { values_after = all.0; values_unchanged = all.1 }

pub resending-message-requires : goal.resending-message-requires
resending-message-requires c = record {
  setup_value = c.requires.setup_value;
  client_bound = (omega (arith, c.requires.client_lt_clients, (ranges _ c.requires.setup_value).clients.1));
  object_lt_objects = c.in-Some.ensures.object_lt_objects;
  object_bound = low_version c.args.words.now c.args.values.now
      _ _ _ _ c.in-Some.ensures.lowest c.requires.growing c.in-Some.ensures.object_lt_objects;
}

pub returns-in-Some : goal.returns-in-Some
returns-in-Some c =
    let p = c.volume_of-volume.ensures in let all = by_resend _ _ _ _ _ _ _ _ _ _ p
    c.must_drop.ensures
    _ c.if-must_drop.false (not_noted _ _ _ _ (omega (arith, c.requires.client_lt_clients, (ranges _ c.requires.setup_value).clients.1))
    p.volume c.if-words-client-ne0.false) c.in-Some.ensures.lowest
    _ _ _ c.in-Some.ensures.object_lt_objects c.resending-message.ensures (c.push.ensures.values_after, c.push.ensures.values_unchanged) in
    record { values_after = all.0; values_unchanged = all.1 }

pub returns-else-words-renew-eq0 : goal.returns-else-words-renew-eq0
returns-else-words-renew-eq0 c =
    let p = c.volume_of-volume.ensures in let all = by_hold _ _ _ _ _ _ _ _ _ _ p
    c.must_drop.ensures
    _ c.if-must_drop.false (not_noted _ _ _ _ (omega (arith, c.requires.client_lt_clients, (ranges _ c.requires.setup_value).clients.1))
    p.volume c.if-words-client-ne0.false) c.in_default.ensures.lowest
    (omega arith) (stands _ _ _ p.object c.if-words-renew-eq0.false) in record { values_after = all.0; values_unchanged = all.1 }

pub grant-requires : goal.grant-requires
grant-requires c = record {
  setup_value = c.requires.setup_value;
  values_bound = c.requires.values_bound;
  client_bound = omega (arith, c.requires.client_lt_clients, (ranges _ c.requires.setup_value).clients.1);
  object_lt_objects = c.requires.object_lt_objects;
}

pub returns-then-words-renew-eq0 : goal.returns-then-words-renew-eq0
returns-then-words-renew-eq0 c =
    let p = c.volume_of-volume.ensures in let all = by_grant _ _ _ _ _ _ _ _ _ _ p
    c.must_drop.ensures
    _ c.if-must_drop.false (not_noted _ _ _ _ (omega (arith, c.requires.client_lt_clients, (ranges _ c.requires.setup_value).clients.1))
    p.volume c.if-words-client-ne0.false) c.in_default.ensures.lowest _ _
    (omega arith) (rests _ _ _ p.object c.if-words-renew-eq0.true) (c.grant.ensures.values_after, c.grant.ensures.values_unchanged) in record {
      values_after = all.0;
      values_unchanged = all.1;
    }
