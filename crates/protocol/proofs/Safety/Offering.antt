-- A client takes an OFFER: it knows the epoch, and holds no lease in the volume any more.
use Rattle.std.specs.Prelude.{ℕ, ◌*◌, ◌<◌, List, ◌≡◌, refl, eqb, set}
use Rattle.std.proofs.Common.{⊎_elim, ap, ◌∙◌, eq-eqb, ne_eqb}
use Rattle.laws.specs.Choice.{same?, cond_keeps}
use Rattle.protocol.specs.declared.message.Kind.TheVariants.{Offer, Dropped}
use Rattle.protocol.specs.declared.records.Copy.{Copy}
use Rattle.protocol.specs.declared.setup.Setup.{Setup}
use Rattle.protocol.specs.declared.step.Sweep.TheVariants.{Expire}
use Rattle.protocol.specs.Setup.{volume_of}
use Rattle.protocol.specs.Messages.{message}
use Rattle.protocol.specs.Tables.{with_views}
use Rattle.protocol.specs.Server.{sent}
use Rattle.protocol.specs.Client.{ended, viewed, swept, swept_all}
use Rattle.protocol.specs.World.{World}
use Rattle.protocol.specs.Ranges.{Ranges}
use Rattle.protocol.specs.Soundness.Shape.{WorldShape}
use Rattle.protocol.specs.Safety.View.{copy_at, request_at, view_of}
use Rattle.protocol.specs.Safety.Invariant.{Inv, KindOk, clocks_of}
use Rattle.protocol.proofs.Safety.Stores.{same_version_law, same_expiry}
use Rattle.protocol.proofs.Safety.Tools.{zero_dead_client, left_none}
use Rattle.protocol.specs.Safety.Covering.{Empty}
use Rattle.protocol.proofs.Safety.Covering.{remains_less, covered_empty, remains_empty}
use Rattle.protocol.proofs.Safety.Sending.{send_single}
use Rattle.protocol.proofs.Safety.Requests.{has_record, ended_moves, header}
use Rattle.protocol.proofs.Safety.Taking.{Inside, taken_inside, taken_view}
use Rattle.protocol.proofs.Safety.Sweeping.{swept_own, swept_other}

-- what the sweep leaves of one copy
module _ (s : Setup) (v : ℕ) (c : Copy) (k : ℕ) where
  pub expire_version : (swept s (Expire v) c k).version ≡ c.version
  unfolding swept
  expire_version = cond_keeps (λ (x : Copy). x.version ≡ c.version) (eqb (volume_of s k) v) (λ e. refl) (λ e. refl)

  pub expire_value : (swept s (Expire v) c k).value ≡ c.value
  unfolding swept
  expire_value = cond_keeps (λ (x : Copy). x.value ≡ c.value) (eqb (volume_of s k) v) (λ e. refl) (λ e. refl)

  pub expire_inside : volume_of s k ≡ v → (swept s (Expire v) c k).expiry ≡ 0
  unfolding swept
  expire_inside h = rw (eq-eqb (volume_of s k) v h)

  pub expire_outside : (volume_of s k ≡ v → ⊥) → swept s (Expire v) c k ≡ c
  unfolding swept
  expire_outside h = rw (ne_eqb (volume_of s k) v h)

-- ---- OFFER of client d, taken
module _ (s : Setup) (range : Ranges s) (w : World) (inv : Inv s w) (shape : WorldShape s w) (d v n e : ℕ) (hd : d < s.clients) (ok : KindOk s w d (Offer v n e)) where
  abbrev copies : List Copy
  copies = swept_all s (Expire v) (d * s.objects) w.copies

  own_copy : (i : ℕ) → i < s.objects → copy_at s copies d i ≡ swept s (Expire v) (copy_at s w.copies d i) i
  own_copy i h = swept_own s w.copies d shape.copies hd (Expire v) i h

  elsewhere : (k i : ℕ) → i < s.objects → (k ≡ d → volume_of s i ≡ v → ⊥) → copy_at s copies k i ≡ copy_at s w.copies k i
  elsewhere k i h ne =
      ⊎_elim (λ p. rw p (own_copy i h ∙ expire_outside s v _ i (λ q. ne p q))) (λ p. swept_other s w.copies d shape.copies hd (Expire v) k i p h) (same? k d)

  kept_version : (i : ℕ) → i < s.objects → (copy_at s copies d i).version ≡ (copy_at s w.copies d i).version
  kept_version i h = same_version_law (own_copy i h) ∙ expire_version s v _ i

  kept_value : (i : ℕ) → i < s.objects → (copy_at s copies d i).value ≡ (copy_at s w.copies d i).value
  kept_value i h = ap (λ (c : Copy). c.value) (own_copy i h) ∙ expire_value s v _ i

  -- the client has no lease in the volume any more
  empty : Empty s (clocks_of w.tables d) v (view_of s copies d e 0)
  empty = record {
    volume = refl;
    objects = λ i a. zero_dead_client (clocks_of w.tables d) (same_expiry (own_copy i a.exists) ∙ expire_inside s v _ i a.inside) a.alive;
  }

  inside : Inside s range w inv shape d hd v e 0 ok.exists copies elsewhere
  inside = record {
    epoch = ok.header.reached;
    reached = λ i h q. rw (kept_version i h) (inv.versions.reached d i hd h);
    values = λ i h q. rw (kept_version i h, kept_value i h) (inv.versions.values d i hd h);
    view = covered_empty empty;
    erased = λ i f ver z q a. kept_version i (inv.messages _ z).kind.invalidate.exists ∙ (inv.messages _ z).kind.erased a;
    remains = λ n' f z a b. remains_empty empty;
    unheld = λ n' f m z a b. record { none = λ i p h. empty.objects i h };
  }

  abbrev after : World
  after = record {
    tables = with_views w.tables (viewed w.tables.views d v e 0);
    copies = copies;
    requests = set w.requests d (ended (request_at w.requests d));
  }

  -- .. and sends DROPPED
  pub offer_taken : Inv s (record {
    tables = sent after.tables (message d (Dropped v n e));
    copies = copies;
    requests = after.requests;
  })
  offer_taken =
      send_single s after (taken_inside s range w inv shape d hd v e 0 ok.exists copies elsewhere inside) (message d (Dropped v n e)) shape.tables.queue.items
      (record {
        client = hd;
        kind = record {
          exists = ok.exists;
          header = header s w inv _ (ended_moves w.requests d (has_record shape hd)) d v n e ok.header;
          writes = λ a i h q b. left_none _;
          remains = λ a b. remains_less (taken_view s range w inv shape d hd v e 0 ok.exists copies elsewhere) (remains_empty empty);
        };
      })
      (λ i a. a) (λ k i b. b)
