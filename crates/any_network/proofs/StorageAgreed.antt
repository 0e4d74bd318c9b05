-- Demand 3 with a later VE and skipped numbers: both keep the invariant, and the ledger reads neither.
-- Letters: those of Storage; w world, q a message list, l ledger; i is that the setup is in range, ok what holds of the net.
use Rattle.std.specs.Prelude.{ℕ, ◌+◌, ◌<◌, ◌≤◌, true, ◌⊎◌, ◌≡◌, refl, length, set}
use Rattle.std.proofs.Common.{arith, inl, inr, ⊎_elim, ◌∙◌, length-set, get_or-set_same, get_or-set_other}
use mathlib.Core.List.{List, [], ◌∷◌}
use Rattle.laws.specs.Choice.{same?, not_both}
use Rattle.laws.specs.Each.{each_set}
use Rattle.laws.specs.Lists.{all_at}
use Rattle.protocol.specs.declared.message.Queue.{Queue}
use Rattle.protocol.specs.declared.message.Kind.TheVariants.{Renew, Grant, Invalidate, Ack, Offer, Dropped, Batch, Cleared}
use Rattle.protocol.specs.declared.setup.Setup.{Setup}
use Rattle.protocol.specs.Setup.{in_range}
use Rattle.protocol.specs.Ranges.{Ranges}
use Rattle.protocol.proofs.Ranges.{ranges}
use Rattle.protocol.specs.Messages.{empty_queue}
use Rattle.protocol.specs.Tables.{volume_expiry_at, no_request}
use Rattle.protocol.specs.World.{World}
use Rattle.protocol.specs.Ledger.{Ledger, empty_ledger}
use Rattle.protocol.proofs.Soundness.Shape.{volumes_shape, volume_expiry_shape}
use Rattle.protocol.specs.Soundness.Bounds.{Timed, RequestBounded}
use Rattle.protocol.proofs.Soundness.Bounds.{volumes_bounded, volume_expiry_bounded}
use Rattle.protocol.specs.Soundness.Question.{SoundWorld}
use Rattle.protocol.specs.Safety.View.{request_at}
use Rattle.protocol.specs.Safety.Invariant.{Inv}
use Rattle.protocol.specs.Safety.Sending.{Keeps}
use Rattle.protocol.proofs.Safety.Sending.{each}
use Rattle.protocol.proofs.Safety.Stores.{volume_fits_law}
use Rattle.protocol.proofs.Safety.Requests.{has_record, moved as request-moved, replaced_moves, replaced_numbers}
use Rattle.any_network.specs.Network.{Net, fresh_net, listing, moved}
use Rattle.any_network.specs.Storage.{Turn, move, later, skip, later_world, idle_at, skipped_world, with_world, StoredFrom, StoredThroughout}
use Rattle.any_network.specs.Agreement.{books_after}
use Rattle.any_network.specs.Lists.{push_all}
use Rattle.any_network.proofs.Lists.{in_left}
use Rattle.any_network.specs.Invariant.{NetOk}
use Rattle.any_network.proofs.Invariant.{listed_safe, listed_sound, after_ok}
use Rattle.any_network.proofs.NetAgreed.{Kept, move_agrees, fresh_kept}

-- a change of the world that keeps the invariant whatever messages are in the list keeps it over all messages ever sent
changed_ok : (s : Setup) (n : Net) → NetOk s n → (w : World) → ((q : Queue) → SoundWorld s (listing n.world q) → SoundWorld s (listing w q))
    → ((q : Queue) → SoundWorld s (listing n.world q) → Inv s (listing n.world q) → Inv s (listing w q)) → NetOk s (with_world n w)
unfolding push_all
changed_ok s n ok w sound safe =
    let k = after_ok s n ok w [] (omega arith) (λ ms h f.
    let q = push_all empty_queue ms in
    let there = listed_sound s n ok ms f in
    (sound q there, safe q there (listed_safe s n ok ms f))) in
    record {
      sound = k.sound;
      safe = k.safe;
      named = λ m a. k.named m (in_left m n.sent [] a);
      messages = λ m a. k.messages m (in_left m n.sent [] a);
      pairs = λ m g a b. k.pairs m g (in_left m n.sent [] a) (in_left g n.sent [] b);
    }

-- ---- a later VE
module _ (s : Setup) (range : Ranges s) (w : World) (v x : ℕ) (hv : v < s.volumes) (above : volume_expiry_at w.tables v ≤ x) (below : x ≤ w.tables.clock + s.tv) where
  later_message : Keeps s w (later_world w v x)
  later_message d (Renew o n e ver) z hd c = c
  later_message d (Grant o n p e ver y a) z hd c = c
  later_message d (Invalidate o e ver) z hd c = c
  later_message d (Ack o e ver) z hd c = c
  later_message d (Offer u n e) z hd c = c
  later_message d (Dropped u n e) z hd c = c
  later_message d (Batch u n e m) z hd c = c
  later_message d (Cleared u n e m) z hd c = c

  module _ (k : SoundWorld s w) where
    held : v < length w.tables.volumes.expiry
    held = let a = volume_fits_law range hv in omega (arith, k.shape.tables.volumes.expiry)

    later_at : (u : ℕ) → (volume_expiry_at (later_world w v x).tables u ≡ volume_expiry_at w.tables u) ⊎ ((u ≡ v) × (volume_expiry_at (later_world w v x).tables u ≡ x))
    later_at u = ⊎_elim (λ e. inr (e, rw e (get_or-set_same w.tables.volumes.expiry v x 0 held))) (λ e. inl (get_or-set_other w.tables.volumes.expiry v u x 0 e)) (same? u v)

    grown : (u : ℕ) → volume_expiry_at w.tables u ≤ volume_expiry_at (later_world w v x).tables u
    grown u = ⊎_elim (λ e. omega arith) (λ e. rw (e.1, e.0) above) (later_at u)

    later_sound : SoundWorld s (later_world w v x)
    later_sound =
        let l = set w.tables.volumes.expiry v x in
        let small : Timed x = omega (arith, k.bounds.tables.clock, range.tv) in
        record {
          shape = record { tables = volumes_shape (volume_expiry_shape l (length-set w.tables.volumes.expiry v x) k.shape.tables.volumes) k.shape.tables; copies = k.shape.copies; requests = k.shape.requests };
          bounds = record { tables = volumes_bounded (volume_expiry_bounded l (each_set Timed w.tables.volumes.expiry v x k.bounds.tables.volumes.expiry small) k.bounds.tables.volumes) k.bounds.tables; copies = k.bounds.copies; requests = k.bounds.requests };
        }

    later_safe : Inv s w → Inv s (later_world w v x)
    later_safe inv = record {
      bounds = record {
        guards = λ u h. let a = inv.bounds.guards u h in let b = grown u in omega arith;
        volumes = λ u h. ⊎_elim (λ e. rw e (inv.bounds.volumes u h)) (λ e. rw e.1 below) (later_at u);
        sessions = λ d u hd h. let a = inv.bounds.sessions d u hd h in let b = grown u in omega arith;
        objects = inv.bounds.objects;
        leases = inv.bounds.leases;
      };
      epochs = inv.epochs;
      numbers = inv.numbers;
      versions = inv.versions;
      offers = inv.offers;
      batches = inv.batches;
      writes = inv.writes;
      views = inv.views;
      messages = each inv later_message;
      pairs = inv.pairs;
    }

-- ---- a higher number, with no request standing
module _ (s : Setup) (w : World) (d j : ℕ) (hd : d < s.clients) (up : (request_at w.requests d).next ≤ j) (k : SoundWorld s w) where
  here : d < length w.requests
  here = has_record {s = s} {w = w} k.shape hd

  skipped_safe : Inv s w → Inv s (skipped_world w d j)
  skipped_safe inv =
      request-moved s w inv _ (replaced_moves w.requests d here (idle_at j) up (λ n h a b. not_both a refl))
      (replaced_numbers w.requests d here s _ inv.numbers (idle_at j) (λ e. not_both e refl) up)

  skipped_sound : SoundWorld s (skipped_world w d j)
  skipped_sound =
      let one = (all_at (RequestBounded s) w.requests d no_request here k.bounds.requests).next in
      record {
        shape = record { tables = k.shape.tables; copies = k.shape.copies; requests = length-set w.requests d (idle_at j) ∙ k.shape.requests };
        bounds = record { tables = k.bounds.tables; copies = k.bounds.copies; requests = each_set (RequestBounded s) w.requests d (idle_at j) k.bounds.requests (record { next = omega arith; object = λ e. not_both e refl }) };
      }

-- ---- runs
module _ (s : Setup) (i : in_range s ≡ true) where
  stored_from : (n : Net) (k : ℕ) (l : Ledger) (zs : List Turn) → Kept s i n k l → StoredFrom s n k (record { net = n; ledger = l }) zs
  unfolding StoredFrom books_after
  stored_from n k l [] h = tt
  stored_from n k l (move y ∷ zs) h = let a = move_agrees s i n k l h y in (a.0, stored_from (moved s n y) _ _ zs a.1)
  stored_from n k l (later v x ∷ zs) h = λ hv above below.
      stored_from (with_world n (later_world n.world v x)) k l zs
      (record {
        ok = changed_ok s n h.ok (later_world n.world v x)
            (λ q. later_sound s (ranges s i) (listing n.world q) v x hv above below) (λ q. later_safe s (ranges s i) (listing n.world q) v x hv above below);
        booked = record { values = h.booked.values; writes = h.booked.writes; tallies = h.booked.tallies };
        counted = h.counted;
      })
  stored_from n k l (skip d j ∷ zs) h = λ hd up.
      stored_from (with_world n (skipped_world n.world d j)) k l zs
      (record {
        ok = changed_ok s n h.ok (skipped_world n.world d j) (λ q. skipped_sound s (listing n.world q) d j hd up) (λ q. skipped_safe s (listing n.world q) d j hd up);
        booked = h.booked;
        counted = h.counted;
      })

  pub stored_agrees : (zs : List Turn) → StoredThroughout s zs
  stored_agrees zs = stored_from (fresh_net s) 0 empty_ledger zs (fresh_kept s i)
