use native.Mathlib.Nat.{sub-zero}
use native.Mathlib.Omega.{arith}
use mathlib.Core.Path.{refl}
use Rattle.protocol.proofs.Ranges.{ranges}
use Rattle.protocol.specs.Writes.{notified}
use Rattle.state_words.specs.View.{tables_of}
use Rattle.server_write.proofs.Laws.{sending_start, sending_again, awaited_word, notify_again, notify_end}
use Rattle.server_write.proofs.invalidates.notify.Goals as goal

pub invalidation-kind-requires-clause-object_bound : goal.invalidation-kind-requires-clause-object_bound
unfolding tables_of
invalidation-kind-requires-clause-object_bound c = c.requires.object_bound

pub below-client-items-requires : goal.below-client-items-requires
below-client-items-requires c = omega (arith, (ranges _ c.requires.setup_value).clients.1)

pub loop-client-init-derived : goal.loop-client-init-derived
loop-client-init-derived c = rw (c.into_iter-client-iterator.ensures.into_iter_gives, c.below-client-items.ensures) ((omega arith, omega (arith, (ranges _ c.requires.setup_value).clients.1)), tt)

pub loop-client-init : goal.loop-client-init
unfolding notified
loop-client-init c =
    rw (c.into_iter-client-iterator.ensures.into_iter_gives, c.below-client-items.ensures, sub-zero)
    record {
      ends = refl;
      among = awaited_word _ c.args.values.now _ (omega (arith, c.requires.object_lt_objects, (ranges _ c.requires.setup_value).objects.1));
      sending = sending_start _ _;
      left = refl;
    }

pub loop-client-preserved : goal.loop-client-preserved
loop-client-preserved c =
    let i = c.loop-client.invariant in
    let s = c.in-Some.ensures.steps in
    record {
      ends = rw s.2 i.ends;
      among = rw s.2 i.among;
      sending = sending_again _ _ _ _ _ _ _ i.sending (c.push.ensures.values_after, c.push.ensures.values_unchanged);
      left = rw s.2
          (notify_again _ _ _ _ _ _ _ _ _ _ i.ends i.among i.sending c.loop-client.iterator.0.0 s.0 i.left
          _ _ _ s.1 c.invalidation-kind.ensures c.push.ensures.values_after);
    }

pub returns : goal.returns
returns c =
    let i = c.loop-client.invariant in
    let all = notify_end _ _ _ _ _ _ _ _ _ _ i.ends i.among i.sending c.loop-client.iterator.0.0 c.in-None.ensures.steps i.left (omega arith) in
    record { values_after = all.0; values_unchanged = all.1 }
