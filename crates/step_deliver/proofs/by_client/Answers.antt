use native.Mathlib.Omega.{arith}
use mathlib.Core.Path.{refl}
use Rattle.protocol.proofs.Ranges.{ranges}
use Rattle.step_deliver.proofs.Delivering.{grant_in, offer_in, hears_grant, hears_invalidate, hears_offer, hears_batch, hears_none}
use Rattle.step_deliver.proofs.by_client.Goals as goal

pub grant-requires : goal.grant-requires
grant-requires c = record { setup_value = c.requires.setup_value; client_lt_clients = c.requires.client_lt_clients; object_lt_objects = grant_in _ _ c.requires.k_value _ _ _ _ _ _ _ c.in-Grant.is }

pub offer-requires : goal.offer-requires
offer-requires c =
    let g = ranges _ c.requires.setup_value in
    let h = offer_in _ _ c.requires.k_value _ _ _ c.in-Offer.is in record { client_bound = omega (arith, c.requires.client_lt_clients); volume_bound = omega arith }

pub returns-in-Grant : goal.returns-in-Grant
returns-in-Grant c = record { values_after = hears_grant _ _ _ _ _ _ _ _ _ _ _ _ _ _ c.in-Grant.is c.grant.ensures.values_after; values_unchanged = c.grant.ensures.values_unchanged }

pub returns-in-Invalidate : goal.returns-in-Invalidate
returns-in-Invalidate c = record { values_after = hears_invalidate _ _ _ _ _ _ _ _ _ _ c.in-Invalidate.is c.invalidate.ensures.values_after; values_unchanged = c.invalidate.ensures.values_unchanged }

pub returns-in-Offer : goal.returns-in-Offer
returns-in-Offer c = record { values_after = hears_offer _ _ _ _ _ _ _ _ _ _ c.in-Offer.is c.offer.ensures.values_after; values_unchanged = c.offer.ensures.values_unchanged }

pub returns-in-Batch : goal.returns-in-Batch
returns-in-Batch c = record { values_after = hears_batch _ _ _ _ _ _ _ _ _ _ _ c.in-Batch.is c.batch.ensures.values_after; values_unchanged = c.batch.ensures.values_unchanged }

pub returns-in_default : goal.returns-in_default
returns-in_default c = record { values_after = hears_none _ _ _ _ _ _ _ c.unchanged.ensures c.in_default.in_default-own.keys5; values_unchanged = refl }
