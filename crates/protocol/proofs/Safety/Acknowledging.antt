-- The server takes an ACK: the client holds no copy, and no GRANT under way can bring it one, so its lease may go.
use Rattle.std.specs.Prelude.{ℕ, ◌+◌, ◌<◌, ◌≤◌, true, false, ◌&&◌, List, ◌≡◌, eqb, get_or, set}
use Rattle.std.proofs.Common.{arith, inr, sym, ◌∙◌, eqb-true}
use Rattle.std.proofs.Math.Logic.{inl, ⊎_elim}
use Rattle.laws.specs.Choice.{not_both, and-true}
use Rattle.laws.specs.Sets.{bit_at, removed}
use Rattle.laws.specs.Store.{set_at}
use Rattle.laws.specs.Updated.{updated_other}
use Rattle.protocol.specs.declared.message.Kind.{Kind}
use Rattle.protocol.specs.declared.message.Kind.TheVariants.{Renew, Grant, Invalidate, Ack, Offer, Dropped, Batch, Cleared}
use Rattle.protocol.specs.declared.setup.Setup.{Setup}
use Rattle.protocol.specs.declared.tables.Tables.{Tables}
use Rattle.protocol.specs.Setup.{volume_of}
use Rattle.protocol.specs.Tables.{by_object, epoch_at, version_at, standing_at, lease_at, awaited_at, waiting_at}
use Rattle.protocol.specs.Server.{ack_taken, acked}
use Rattle.protocol.specs.World.{World}
use Rattle.protocol.specs.Ranges.{Ranges}
use Rattle.protocol.specs.Soundness.Shape.{Shape}
use Rattle.protocol.specs.Safety.View.{copy_at, held_of, View, Held}
use Rattle.protocol.specs.Safety.Invariant.{Inv, Sent, from, Bringing, AcknowledgesIn}
use Rattle.protocol.specs.Safety.Stores.{After}
use Rattle.protocol.proofs.Safety.Stores.{object_set, object_fits, client_removed}
use Rattle.protocol.proofs.Safety.Tools.{zero_dead, left_below}
use Rattle.protocol.specs.Safety.Replaced.{with_tables}
use Rattle.protocol.proofs.Safety.Covering.{covered_by, remains_by, grant_covered}
use Rattle.protocol.specs.Safety.Sending.{Keeps}
use Rattle.protocol.proofs.Safety.Sending.{each}

pub ack_taken_law : (s : Setup) (t : Tables) (o e ver : ℕ) → ack_taken s t o e ver ≡ true → AcknowledgesIn s t o e ver
unfolding ack_taken
ack_taken_law s t o e ver h =
    let a = and-true (standing_at t o) (eqb e (epoch_at t (volume_of s o)) && eqb ver (version_at t o + 1)) h in
    let b = and-true (eqb e (epoch_at t (volume_of s o))) (eqb ver (version_at t o + 1)) a.1 in
    record { stands = a.0; current = eqb-true _ _ b.0; next = eqb-true _ _ b.1 }

-- ---- ACK (object o) of client d, taken
module _ (s : Setup) (range : Ranges s) (w : World) (inv : Inv s w) (shape : Shape w.tables) (d o : ℕ) (hd : d < s.clients) (ho : o < s.objects)
    (gone : (copy_at s w.copies d o).version ≡ 0) (alone : (g : Kind) → Sent w.tables.queue (from d g) → Bringing w.requests d o g → ⊥) where
  abbrev lease : List ℕ
  lease = set w.tables.holders.lease (by_object d o) 0

  abbrev waiting : List ℕ
  waiting = set w.tables.holders.waiting o (removed (awaited_at w.tables o) d)

  at_lease : (k i : ℕ) → i < s.objects → After d o k i (get_or lease (by_object k i) 0) 0 (lease_at w.tables k i)
  at_lease k i h = object_set range hd ho w.tables.holders.lease 0 0 shape.holders.lease k i h

  at_waiting : (k i : ℕ) → k < s.clients → After d o k i (bit_at (get_or waiting i 0) k) false (waiting_at w.tables k i)
  at_waiting k i hk =
      let l = shape.holders.waiting in
      let f = object_fits range ho in
      ⊎_elim
      (λ a. ⊎_elim (λ b. inl (b.0, a.0, rw a.1 b.1)) (λ b. inr (λ p q. b.0 p, rw (a.1, a.0) b.1)) (client_removed range (awaited_at w.tables o) d k hk))
      (λ a. inr (λ p q. a.0 q, rw a.1)) (set_at w.tables.holders.waiting o (removed (awaited_at w.tables o) d) i 0 (omega arith))

  -- a view without the object needs the lease no longer
  unowed : (k v clock : ℕ) (view : View) → (k ≡ d → view.held o ≡ 0) → (i : ℕ) → Held s clock v view i → lease_at w.tables k i ≤ get_or lease (by_object k i) 0
  unowed k v clock view none i h = ⊎_elim (λ a. absurd (rw a.1 at h.copy (none a.0))) (λ a. omega (arith, a.1)) (at_lease k i h.exists)

  gone_at : (k : ℕ) → k ≡ d → (copy_at s w.copies k o).version ≡ 0
  gone_at k q = rw q gone

  keeps : Keeps s w (with_tables w (acked w.tables d o))
  unfolding acked
  keeps k (Renew i n e ver) z hk c = c
  keeps k (Grant i n x e ver y p) z hk c =
      grant_covered c (λ a. covered_by (c.covered a) (omega arith) (λ j h b. b)
      (unowed k _ _ _ (λ q. updated_other (held_of s w.copies k) i o ver (λ r. alone (Grant i n x e ver y p) (rw q at z) (sym r, rw q at a)) ∙ gone_at k q)))
  keeps k (Invalidate i e ver) z hk c = c
  keeps k (Ack i e ver) z hk c = c
  keeps k (Offer v n e) z hk c = c
  keeps k (Dropped v n e) z hk c = record {
    exists = c.exists;
    header = c.header;
    writes = λ a i h q b. ⊎_elim (λ r. let l = left_below 0 in rw r.2 (omega arith)) (λ r. rw r.1 (c.writes a i h q b)) (at_lease k i h);
    remains = λ a b. remains_by (c.remains a b) (unowed k _ _ _ (gone_at k));
  }
  keeps k (Batch v n e m) z hk c = c
  keeps k (Cleared v n e m) z hk c = c

  pub acked_keeps : Inv s (with_tables w (acked w.tables d o))
  unfolding acked
  acked_keeps = record {
    bounds = record {
      guards = inv.bounds.guards;
      volumes = inv.bounds.volumes;
      sessions = inv.bounds.sessions;
      objects = inv.bounds.objects;
      leases = λ k i hk h. ⊎_elim (λ a. rw a.2 (omega arith)) (λ a. rw a.1 (inv.bounds.leases k i hk h)) (at_lease k i h);
    };
    epochs = inv.epochs;
    numbers = inv.numbers;
    versions = inv.versions;
    offers = inv.offers;
    batches = inv.batches;
    writes = record {
      guards = inv.writes.guards;
      waits = λ k i hk h a b. ⊎_elim (λ q. not_both b q.2)
          (λ q. ⊎_elim (λ r. absurd (q.0 r.0 r.1)) (λ r. rw r.1 (inv.writes.waits k i hk h a (sym q.1 ∙ b))) (at_lease k i h)) (at_waiting k i hk);
      others = λ k i hk h a b. ⊎_elim (λ r. inl (rw r.2 (zero_dead w.tables.clock)))
          (λ r. ⊎_elim (λ q. absurd (r.0 q.0 q.1)) (λ q. rw r.1 (inv.writes.others k i hk h a (sym q.1 ∙ b))) (at_waiting k i hk)) (at_lease k i h);
    };
    views = λ k v hk hv. covered_by (inv.views k v hk hv) (omega arith) (λ j h b. b) (unowed k _ _ _ (gone_at k));
    messages = each inv keeps;
    pairs = inv.pairs;
  }
