-- Time passes: what was dead stays dead, and a client that counts a lease alive later counted it alive before.
use Rattle.std.specs.Prelude.{ℕ, ◌≤◌, Bool, List}
use Rattle.std.proofs.Common.{arith, inl, inr, ⊎_elim}
use Rattle.protocol.specs.declared.message.Kind.TheVariants.{Renew, Grant, Invalidate, Ack, Offer, Dropped, Batch, Cleared}
use Rattle.protocol.specs.declared.setup.Setup.{Setup}
use Rattle.protocol.specs.Tables.{with_clock}
use Rattle.protocol.specs.Leases.{client_clock}
use Rattle.protocol.specs.World.{World}
use Rattle.protocol.specs.Safety.View.{View, Held, Unheld, Covered, Remains}
use Rattle.protocol.specs.Safety.Invariant.{Inv}
use Rattle.protocol.proofs.Safety.Tools.{later_dead, earlier_alive}
use Rattle.protocol.specs.Safety.Replaced.{with_tables}
use Rattle.protocol.proofs.Safety.Covering.{grant_covered}
use Rattle.protocol.specs.Safety.Sending.{Keeps}
use Rattle.protocol.proofs.Safety.Sending.{each}

module _ {s : Setup} (clock later d : ℕ) (h : clock ≤ later) {v : ℕ} {view : View} where
  held_before : (o : ℕ) → Held s (client_clock later d) v view o → Held s (client_clock clock d) v view o
  held_before o a = record { exists = a.exists; inside = a.inside; copy = a.copy; alive = earlier_alive clock later d (view.until o) h a.alive }

  covered_later : {epoch guard session : ℕ} {excuse : ℕ → Bool} {version lease : List ℕ} → Covered s (client_clock clock d) d v epoch guard session excuse version lease view
      → Covered s (client_clock later d) d v epoch guard session excuse version lease view
  covered_later c = record {
    current = c.current;
    older = c.older;
    holds = λ o a l. c.holds o (held_before o a) (⊎_elim (λ b. inl (earlier_alive clock later d view.expiry h b)) inr l);
  }

  remains_later : {version lease : List ℕ} → Remains s (client_clock clock d) d v version lease view → Remains s (client_clock later d) d v version lease view
  remains_later c = record { volume = c.volume; objects = λ o a. c.objects o (held_before o a) }

  unheld_later : {m : ℕ} → Unheld s (client_clock clock d) v m view → Unheld s (client_clock later d) v m view
  unheld_later c = record { none = λ o b a. c.none o b (held_before o a) }

-- the bounds by the larger clock; the writes' and the views' clauses by T3
pub clock_keeps : (s : Setup) (w : World) (later : ℕ) → w.tables.clock ≤ later → Inv s w → Inv s (with_tables w (with_clock w.tables later))
clock_keeps s w later h inv = record {
  bounds = record {
    guards = inv.bounds.guards;
    volumes = λ v hv. let b = inv.bounds.volumes v hv in omega arith;
    sessions = inv.bounds.sessions;
    objects = λ o ho. let b = inv.bounds.objects o ho in omega arith;
    leases = inv.bounds.leases;
  };
  epochs = inv.epochs;
  numbers = inv.numbers;
  versions = inv.versions;
  offers = inv.offers;
  batches = inv.batches;
  writes = record {
    guards = inv.writes.guards;
    waits = inv.writes.waits;
    others = λ d o hd ho st wt.
        ⊎_elim (λ a. inl (later_dead _ later _ h a)) (λ a. inr (later_dead _ later _ h a.0, a.1)) (inv.writes.others d o hd ho st wt);
  };
  views = λ d v hd hv. covered_later w.tables.clock later d h (inv.views d v hd hv);
  messages = each inv keeps;
  pairs = inv.pairs;
}
  where
    keeps : Keeps s w (with_tables w (with_clock w.tables later))
    keeps d (Renew o n e ver) z hd c = c
    keeps d (Grant o n x e ver y p) z hd c = grant_covered c (λ a. covered_later w.tables.clock later d h (c.covered a))
    keeps d (Invalidate o e ver) z hd c = c
    keeps d (Ack o e ver) z hd c = c
    keeps d (Offer v n e) z hd c = c
    keeps d (Dropped v n e) z hd c = record {
      exists = c.exists;
      header = c.header;
      writes = c.writes;
      remains = λ a b. remains_later w.tables.clock later d h (c.remains a b);
    }
    keeps d (Batch v n e m) z hd c = c
    keeps d (Cleared v n e m) z hd c = record { exists = c.exists; header = c.header; unheld = λ a b. unheld_later w.tables.clock later d h (c.unheld a b) }
