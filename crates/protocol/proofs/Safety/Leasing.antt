-- The server renews a client's leases on an object and its volume, and sends the GRANT.
use Prim.Native.Nat.{ℕ, ◌+◌, ◌<◌, ◌≤◌}
use Rattle.std.proofs.Common.{arith, inr, sym, ◌∙◌, eqb-true}
use Rattle.std.proofs.Math.Decide.{ℕ_discrete}
use Rattle.std.proofs.Math.Bool.{true, false}
use Rattle.std.proofs.Math.Logic.{inl, ⊎_elim}
use Rattle.std.specs.Prelude.{◌≡◌}
use Rattle.std.proofs.Math.Path.{refl}
use Rattle.laws.specs.Choice.{same?, not_both, cond_keeps}
use Rattle.laws.specs.Updated.{updated_other, updated_same}
use Rattle.protocol.specs.declared.message.Kind.{Kind}
use Rattle.protocol.specs.declared.message.Kind.TheVariants.{Renew, Grant, Invalidate, Ack, Offer, Dropped, Batch, Cleared}
use Rattle.protocol.specs.declared.setup.Setup.{Setup}
use Rattle.protocol.specs.declared.tables.Tables.{Tables}
use Rattle.protocol.specs.Setup.{volume_of}
use Rattle.protocol.specs.Tables.{epoch_at, volume_expiry_at, seen_at, session_expiry_at, unreachable_at, offer_at, notes_at, batch_at, version_at, object_expiry_at, standing_at, lease_at, waiting_at}
use Rattle.protocol.specs.Leases.{server_alive}
use Rattle.protocol.specs.Server.{volume_renewed, object_renewed, same_version, payload_for, granting, granted}
use Rattle.protocol.specs.World.{World}
use Rattle.protocol.specs.Ranges.{Ranges}
use Rattle.protocol.specs.Soundness.Shape.{Shape}
use Rattle.protocol.specs.Safety.View.{View, Stands, copy_at, held_of, until_of, view_granted, Held}
use Rattle.protocol.specs.Safety.Invariant.{Inv, PayloadOk, NamesHeld, excuses_of, clocks_of, KindOk, AckingIn, CoveredIn}
use Rattle.protocol.specs.Safety.Stores.{After}
use Rattle.protocol.proofs.Safety.Stores.{at_place, off_place, volume_set, object_set, object_fits, volume_fits_law}
use Rattle.protocol.specs.Safety.Replaced.{with_tables, Replaced}
use Rattle.protocol.proofs.Safety.Replaced.{here_at, set_replaced}
use Rattle.protocol.proofs.Safety.Covering.{covered_by, remains_by, grant_covered}
use Rattle.protocol.specs.Safety.Sending.{Keeps}
use Rattle.protocol.proofs.Safety.Sending.{each, acking_case, not_acking, send}

module _ (s : Setup) (range : Ranges s) (w : World) (inv : Inv s w) (shape : Shape w.tables) (d o : ℕ) (hd : d < s.clients) (ho : o < s.objects)
    (reachable : unreachable_at w.tables d (volume_of s o) ≡ false) (unnoted : notes_at w.tables d (volume_of s o) ≡ 0) (free : standing_at w.tables o ≡ false)
    (trusted : (i : ℕ) → i < s.objects → volume_of s i ≡ volume_of s o → excuses_of w.tables d (volume_of s o) i ≡ false)
    (unwaited : (i : ℕ) → i < s.objects → volume_of s i ≡ volume_of s o → standing_at w.tables i ≡ true → waiting_at w.tables d i ≡ false) where
  abbrev v : ℕ
  v = volume_of s o

  abbrev long : ℕ
  long = w.tables.clock + s.tv

  abbrev longer : ℕ
  longer = w.tables.clock + s.t

  abbrev t : Tables
  t = object_renewed s (volume_renewed s w.tables d v) d o

  hv : v < s.volumes
  hv = range.within o ho

  at_volume : Replaced v long 0 w.tables.volumes.expiry t.volumes.expiry
  unfolding object_renewed volume_renewed
  at_volume = let b = volume_fits_law range hv in set_replaced w.tables.volumes.expiry v long 0 (omega (arith, shape.volumes.expiry))

  at_object : Replaced o longer 0 w.tables.objects.expiry t.objects.expiry
  unfolding object_renewed volume_renewed
  at_object = let b = object_fits range ho in set_replaced w.tables.objects.expiry o longer 0 (omega (arith, shape.objects.expiry))

  at_session : (k u : ℕ) → u < s.volumes → After d v k u (session_expiry_at t k u) long (session_expiry_at w.tables k u)
  unfolding object_renewed volume_renewed
  at_session k u h = volume_set range hd hv w.tables.sessions.expiry long 0 shape.sessions.expiry k u h

  at_lease : (k i : ℕ) → i < s.objects → After d o k i (lease_at t k i) longer (lease_at w.tables k i)
  unfolding object_renewed volume_renewed
  at_lease k i h = object_set range hd ho w.tables.holders.lease longer 0 shape.holders.lease k i h

  -- every expiry that changes grows, and none past what the clock allows
  volume_grows : (u : ℕ) → u < s.volumes → (volume_expiry_at w.tables u ≤ volume_expiry_at t u) × (volume_expiry_at t u ≤ long)
  volume_grows u h =
      let b = inv.bounds.volumes u h in
      ⊎_elim (λ q. let a = here_at at_volume u q in (omega arith, omega arith)) (λ q. let a = at_volume.other u q in (omega arith, omega arith)) (same? u v)

  object_grows : (i : ℕ) → i < s.objects → (object_expiry_at w.tables i ≤ object_expiry_at t i) × (object_expiry_at t i ≤ longer)
  object_grows i h =
      let b = inv.bounds.objects i h in
      ⊎_elim (λ q. let a = here_at at_object i q in (omega arith, omega arith)) (λ q. let a = at_object.other i q in (omega arith, omega arith)) (same? i o)

  session_grows : (k u : ℕ) → k < s.clients → u < s.volumes → session_expiry_at w.tables k u ≤ session_expiry_at t k u
  session_grows k u hk h =
      let b = inv.bounds.volumes u h in let l = inv.bounds.sessions k u hk h in
      ⊎_elim (λ a. omega (arith, a.2)) (λ a. omega (arith, a.1)) (at_session k u h)

  lease_grows : (k i : ℕ) → k < s.clients → i < s.objects → lease_at w.tables k i ≤ lease_at t k i
  lease_grows k i hk h =
      let b = inv.bounds.objects i h in let l = inv.bounds.leases k i hk h in
      ⊎_elim (λ a. omega (arith, a.2)) (λ a. omega (arith, a.1)) (at_lease k i h)

  -- no lease on what is being written changes
  written_same : (k i : ℕ) → i < s.objects → standing_at w.tables i ≡ true → lease_at t k i ≡ lease_at w.tables k i
  written_same k i h a = off_place (at_lease k i h) (λ p q. not_both (rw q at a) free)

  keeps : Keeps s w (with_tables w t)
  unfolding object_renewed volume_renewed
  keeps k (Renew i n e ver) z hk c = c
  keeps k (Grant i n x e ver y p) z hk c =
      grant_covered c (λ a. covered_by (c.covered a) (session_grows k (volume_of s i) hk (range.within i c.exists)) (λ j h b. b) (λ j h. lease_grows k j hk h.exists))
  keeps k (Invalidate i e ver) z hk c = c
  keeps k (Ack i e ver) z hk c = c
  keeps k (Offer u n e) z hk c = c
  keeps k (Dropped u n e) z hk c = record {
    exists = c.exists;
    header = c.header;
    writes = λ a i h q b. rw (written_same k i h b) (c.writes a i h q b);
    remains = λ a b. remains_by (c.remains a b) (λ i h. lease_grows k i hk h.exists);
  }
  keeps k (Batch u n e m) z hk c = c
  keeps k (Cleared u n e m) z hk c = c

  pub leased : Inv s (with_tables w t)
  unfolding object_renewed volume_renewed
  leased = record {
    bounds = record {
      guards = λ u h. let a = inv.bounds.guards u h in let b = volume_grows u h in omega arith;
      volumes = λ u h. (volume_grows u h).1;
      sessions = λ k u hk h.
          let b = inv.bounds.sessions k u hk h in
          let l = volume_grows u h in
          ⊎_elim (λ a. omega (arith, a.2, here_at at_volume u a.1)) (λ a. omega (arith, a.1)) (at_session k u h);
      objects = λ i h. (object_grows i h).1;
      leases = λ k i hk h.
          let b = inv.bounds.leases k i hk h in
          let l = object_grows i h in
          ⊎_elim (λ a. omega (arith, a.2, here_at at_object i a.1)) (λ a. omega (arith, a.1)) (at_lease k i h);
    };
    epochs = inv.epochs;
    numbers = inv.numbers;
    versions = inv.versions;
    offers = inv.offers;
    batches = inv.batches;
    writes = record {
      guards = inv.writes.guards;
      waits = λ k i hk h a b.
          let q = inv.writes.waits k i hk h a b in
          ⊎_elim (λ r. not_both (rw r.0 at b) (unwaited i h r.1 a)) (λ r. omega (arith, r.1, written_same k i h a)) (at_session k (volume_of s i) (range.within i h));
      others = λ k i hk h a b.
          ⊎_elim (λ r. inl (rw (written_same k i h a) (dead k i hk h r.0 r.1 a b)))
          (λ r. rw (written_same k i h a, r.1) (inv.writes.others k i hk h a b))
          (at_session k (volume_of s i) (range.within i h));
    };
    views = λ k u hk h. covered_by (inv.views k u hk h) (session_grows k u hk h) (λ j h b. b) (λ j a. lease_grows k j hk a.exists);
    messages = each inv keeps;
    pairs = inv.pairs;
  }
    where
      dead : (k i : ℕ) → k < s.clients → i < s.objects → k ≡ d → volume_of s i ≡ v → standing_at w.tables i ≡ true → waiting_at w.tables k i ≡ false
          → server_alive w.tables.clock (lease_at w.tables k i) ≡ false
      dead k i hk h p q a b = ⊎_elim (λ r. r) (λ r. not_both (rw (p, q) at r.1) (trusted i h q)) (inv.writes.others k i hk h a b)

  -- ---- the GRANT for a RENEW
  module _ (n e ver : ℕ) (renew : KindOk s w d (Renew o n e ver)) (same : e ≡ epoch_at w.tables v) (seen : n ≤ seen_at w.tables d) where
    says : PayloadOk w.tables.objects.value w.tables.objects.version o (version_at w.tables o) (payload_for w.tables o ver)
    says = cond_keeps (PayloadOk w.tables.objects.value w.tables.objects.version o (version_at w.tables o)) (same_version w.tables o ver) (λ q. tt) (λ q a. refl)

    names : Stands w.requests d n → NamesHeld (copy_at s w.copies d o).version (version_at w.tables o) (payload_for w.tables o ver)
    names a =
        cond_keeps (NamesHeld (copy_at s w.copies d o).version (version_at w.tables o)) (same_version w.tables o ver)
        (λ q. (eqb-true _ _ q ∙ renew.held a, inv.versions.positive o ho)) (λ q. tt)

    none_offered : offer_at w.tables d v ≡ 0
    none_offered = go (ℕ_discrete (offer_at w.tables d v) 0)
      where
        go : Dec (offer_at w.tables d v ≡ 0) → offer_at w.tables d v ≡ 0
        go (yes q) = q
        go (no q) = not_both (inv.offers d v hd hv q) reachable

    none_batched : batch_at w.tables d v ≡ 0
    none_batched = go (ℕ_discrete (batch_at w.tables d v) 0)
      where
        go : Dec (batch_at w.tables d v ≡ 0) → batch_at w.tables d v ≡ 0
        go (yes q) = q
        go (no q) = absurd ((inv.batches d v hd hv q).0 unnoted)

    -- what the client will know of the volume; its epoch is the server's, so the server counted on its other copies
    abbrev view : View
    view = view_granted s w.copies d o long (epoch_at w.tables v) (version_at w.tables o) longer

    covers : Stands w.requests d n → CoveredIn s t d v view
    unfolding object_renewed volume_renewed
    covers a = record {
      current = λ q. rw (at_place (at_session d v hv) refl refl) (omega arith);
      older = λ q. absurd (omega arith);
      holds = λ i h l. ⊎_elim (λ q. this i q) (λ q. rest i q h) (same? i o);
    }
      where
        Owed : ℕ → Type 0
        Owed i = (view.held i ≡ version_at w.tables i)
            × (epoch_at w.tables v ≡ epoch_at w.tables v → view.until i ≤ lease_at t d i)

        this : (i : ℕ) → i ≡ o → Owed i
        this i q = (rw q (updated_same (held_of s w.copies d) o _), λ r. rw (q, updated_same (until_of s w.copies d) o longer, at_place (at_lease d o ho) refl refl) (omega arith))

        rest : (i : ℕ) → (i ≡ o → ⊥) → Held s (clocks_of w.tables d) v view i → Owed i
        rest i q h =
            let cur = sym (renew.knows a) ∙ same in
            let l = (inv.views d v hd hv).holds i (record {
              exists = h.exists;
              inside = h.inside;
              copy = λ r. h.copy (updated_other (held_of s w.copies d) o i _ q ∙ r);
              alive = rw (updated_other (until_of s w.copies d) o i longer q) at h.alive;
            }) (inr (cur, trusted i h.exists h.inside)) in (
              updated_other (held_of s w.copies d) o i _ q ∙ l.0,
              λ r. let b = l.1 cur in rw (updated_other (until_of s w.copies d) o i longer q, off_place (at_lease d i h.exists) (λ p r. q r)) b,
            )

    pub granted_keeps : Inv s (with_tables w (granted s w.tables d o n ver))
    unfolding granted object_renewed volume_renewed
    granted_keeps =
        send s (with_tables w t) leased (granting s w.tables d o n ver) shape.queue.items
        (record {
          client = hd;
          kind = record {
            exists = ho;
            header = record { reached = omega arith; taken = renew.taken; noticed = λ a. seen };
            reached = omega arith;
            payload = says;
            object = renew.object;
            unoffered = λ a b. (none_offered, none_batched);
            held = names;
            covered = covers;
          };
        })
        (λ g z. (not_acking (λ i a. a), record { acked = λ i p a b. unacknowledged i b.0 g.kind a }))
      where
        -- nothing of the object would be acknowledged, as no write of it stands
        unacknowledged : (i : ℕ) → o ≡ i → (g : Kind) → AckingIn s w.tables i g → ⊥
        unacknowledged i q = acking_case (λ _. ⊥) (λ f u a. not_both (rw (← q) at a.stands) free)
