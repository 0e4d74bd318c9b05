-- The server restarts: every epoch that a client or a message knows is an older one now, and the guard covers the leases of those.
use Rattle.std.specs.Prelude.{ℕ, ◌+◌, ◌<◌, ◌≤◌, Bool, false, List, ◌≡◌, get_or, replicate}
use Rattle.std.proofs.Common.{arith, inl, ⊎_elim}
use Rattle.std.proofs.Math.Decide.{ℕ_discrete}
use Rattle.std.proofs.Math.Path.{refl}
use Rattle.std.proofs.lemmas.List.{get_or-replicate}
use Rattle.laws.specs.Store.{always, store_hit}
use Rattle.protocol.specs.declared.message.Kind.TheVariants.{Renew, Grant, Invalidate, Ack, Offer, Dropped, Batch, Cleared}
use Rattle.protocol.specs.declared.setup.Setup.{Setup}
use Rattle.protocol.specs.Setup.{volume_of}
use Rattle.protocol.specs.Tables.{epoch_at}
use Rattle.protocol.specs.Server.{server_restarted}
use Rattle.protocol.specs.World.{World}
use Rattle.protocol.specs.Ranges.{Ranges}
use Rattle.protocol.specs.Soundness.Shape.{Shape}
use Rattle.protocol.specs.Safety.View.{View, Covered}
use Rattle.protocol.specs.Safety.Invariant.{Inv, Header, HeaderIn, InvalidateOk, CoveredIn}
use Rattle.protocol.proofs.Safety.Stores.{nothing_stands, zero_holder, zero_session}
use Rattle.protocol.specs.Safety.Replaced.{with_tables}
use Rattle.protocol.specs.Safety.Sending.{Keeps}
use Rattle.protocol.proofs.Safety.Sending.{each, acked_before}

-- a view after a restart: what was current or older is older, and the largest volume expiry covers it
covered_restarted : {s : Setup} {clock d v epoch guard session volume epoch' session' : ℕ} {excuse excuse' : ℕ → Bool} {version lease lease' : List ℕ} {view : View}
    → Covered s clock d v epoch guard session excuse version lease view → view.known ≤ epoch → epoch' ≡ epoch + 1 → guard ≤ volume → session ≤ volume
    → Covered s clock d v epoch' volume session' excuse' version lease' view
covered_restarted {epoch} {volume} {view} c old next g k = record {
  current = λ a. absurd (omega arith);
  older = λ a. expires (ℕ_discrete view.known epoch);
  holds = λ o h a. ⊎_elim (λ q. ((c.holds o h (inl q)).0, λ b. absurd (omega arith))) (λ q. absurd (omega (arith, q.0))) a;
}
  where
    expires : Dec (view.known ≡ epoch) → view.expiry ≤ volume
    expires (yes q) = let b = c.current q in omega arith
    expires (no q) = let b = c.older (omega arith) in omega arith

module _ (s : Setup) (range : Ranges s) (w : World) (inv : Inv s w) (shape : Shape w.tables) where
  abbrev epoch : List ℕ
  epoch = (server_restarted s w.tables).volumes.epoch

  grown : (v : ℕ) → v < s.volumes → get_or epoch v 0 ≡ epoch_at w.tables v + 1
  unfolding server_restarted
  grown v h =
      let b = range.volumes.1 in
      store_hit always (λ (v : ℕ). v) (λ (v : ℕ). epoch_at w.tables v + 1) (λ i j e. e) w.tables.volumes.epoch s.volumes v 0 h refl (omega (arith, shape.volumes.epoch))

  -- no message is of the new epoch
  before : (v e : ℕ) → v < s.volumes → e ≤ epoch_at w.tables v → e ≡ get_or epoch v 0 → ⊥
  before v e hv h a = omega (arith, grown v hv)

  reached : (v e : ℕ) → v < s.volumes → e ≤ epoch_at w.tables v → e ≤ get_or epoch v 0
  reached v e hv h = omega (arith, grown v hv)

  header : (d v n e : ℕ) → v < s.volumes → HeaderIn w.tables w.requests d v n e → Header epoch (replicate 16 0) w.requests d v n e
  header d v n e hv h = record { reached = reached v e hv h.reached; taken = h.taken; noticed = λ a. absurd (before v e hv h.reached a) }

  invalidate : (o e ver : ℕ) → InvalidateOk s w.tables.volumes.epoch w.tables.objects.version w.tables.objects.standing o e ver
      → InvalidateOk s epoch w.tables.objects.version (replicate 32 false) o e ver
  invalidate o e ver c =
      let hv = range.within o c.exists in
      record { exists = c.exists; reached = reached _ e hv c.reached; recent = λ a. absurd (before _ e hv c.reached a) }

  covered : (d v : ℕ) (view : View) → d < s.clients → v < s.volumes → view.known ≤ epoch_at w.tables v → CoveredIn s w.tables d v view → CoveredIn s (server_restarted s w.tables) d v view
  unfolding server_restarted
  covered d v view hd hv h c = covered_restarted c h (grown v hv) (inv.bounds.guards v hv) (inv.bounds.sessions d v hd hv)

  keeps : Keeps s w (with_tables w (server_restarted s w.tables))
  unfolding server_restarted
  keeps d (Renew o n e ver) z hd c = record {
    exists = c.exists;
    reached = reached _ e (range.within o c.exists) c.reached;
    taken = c.taken;
    object = c.object;
    knows = c.knows;
    held = c.held;
  }
  keeps d (Grant o n x e ver y p) z hd c =
      let hv = range.within o c.exists in
      record {
        exists = c.exists;
        header = header d _ n e hv c.header;
        reached = c.reached;
        payload = c.payload;
        object = c.object;
        unoffered = λ a b. absurd (before _ e hv c.header.reached b);
        held = c.held;
        covered = λ a. covered d (volume_of s o) _ hd hv c.header.reached (c.covered a);
      }
  keeps d (Invalidate o e ver) z hd c = invalidate o e ver c
  keeps d (Ack o e ver) z hd c = record { invalidate = invalidate o e ver c.invalidate; erased = λ a. nothing_stands range o c.invalidate.exists a.stands }
  keeps d (Offer v n e) z hd c = record { exists = c.exists; header = header d v n e c.exists c.header }
  keeps d (Dropped v n e) z hd c = record {
    exists = c.exists;
    header = header d v n e c.exists c.header;
    writes = λ a. absurd (before v e c.exists c.header.reached a.current);
    remains = λ a. absurd (before v e c.exists c.header.reached a.current);
  }
  keeps d (Batch v n e m) z hd c = record { exists = c.exists; header = header d v n e c.exists c.header }
  keeps d (Cleared v n e m) z hd c = record {
    exists = c.exists;
    header = header d v n e c.exists c.header;
    unheld = λ a. absurd (before v e c.exists c.header.reached a.current);
  }

  pub server_restart_law : Inv s (with_tables w (server_restarted s w.tables))
  unfolding server_restarted
  server_restart_law = record {
    bounds = record {
      guards = λ v h. omega arith;
      volumes = inv.bounds.volumes;
      sessions = λ d v hd hv. rw (zero_session range d v hd hv) (omega arith);
      objects = λ o h. let b = range.objects.1 in rw (get_or-replicate {A = ℕ} 32 o 0 0 (omega arith)) (omega arith);
      leases = λ d o hd ho. rw (zero_holder range d o hd ho) (omega arith);
    };
    epochs = λ d v hd hv. reached v _ hv (inv.epochs d v hd hv);
    numbers = record {
      last = inv.numbers.last;
      past = λ d h. let b = inv.numbers.past d h in let l = range.clients.1 in rw (get_or-replicate {A = ℕ} 16 d 0 0 (omega arith)) (omega arith);
    };
    versions = inv.versions;
    offers = λ d v hd hv ne. absurd (ne (zero_session range d v hd hv));
    batches = λ d v hd hv ne. absurd (ne (zero_session range d v hd hv));
    writes = record {
      guards = λ o h a. nothing_stands range o h a;
      waits = λ d o hd ho a b. nothing_stands range o ho a;
      others = λ d o hd ho a b. nothing_stands range o ho a;
    };
    views = λ d v hd hv. covered d v _ hd hv (inv.epochs d v hd hv) (inv.views d v hd hv);
    messages = each inv keeps;
    pairs = acked_before s w _ _ _ inv (λ d o e ver c a. nothing_stands range o c.invalidate.exists a.stands);
  }
