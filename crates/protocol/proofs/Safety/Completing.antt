-- A write completes: by then nobody can show the copy of its object or is counted on for it, so the new version is owed to nobody.
use Rattle.std.specs.Prelude.{ℕ, ◌+◌, ◌<◌, ◌≤◌, Bool, true, List, ◌≡◌, get_or, Option, None, Some}
use Rattle.std.proofs.Common.{arith, inl, sym, ◌∙◌}
use Rattle.std.proofs.Math.Bool.{false}
use Rattle.std.proofs.Math.Logic.{⊎_elim}
use Rattle.laws.specs.Choice.{same?, true_or_false, not_both}
use Rattle.protocol.specs.declared.message.Kind.TheVariants.{Renew, Grant, Invalidate, Ack, Offer, Dropped, Batch, Cleared}
use Rattle.protocol.specs.declared.setup.Setup.{Setup}
use Rattle.protocol.specs.declared.tables.Tables.{Tables}
use Rattle.protocol.specs.Setup.{volume_of}
use Rattle.protocol.specs.Tables.{epoch_at, guard_at, session_expiry_at, version_at, standing_at, pending_at, end_at, lease_at, waiting_at, with_sessions, with_objects, with_holders}
use Rattle.protocol.specs.Leases.{server_alive, client_alive}
use Rattle.protocol.specs.Writes.{posted, released, deserted, completed}
use Rattle.protocol.specs.World.{World}
use Rattle.protocol.specs.Ranges.{Ranges}
use Rattle.protocol.specs.Soundness.Shape.{Shape, ObjectsShape, HoldersShape}
use Rattle.protocol.specs.Safety.View.{left, View, Held, Claimed, ViewOk, Remains}
use Rattle.protocol.specs.Safety.Invariant.{PayloadOk, Recent, InvalidateOk, Acknowledges, clocks_of, excuses_of, CoveredIn, RemainsIn, Inv}
use Rattle.protocol.proofs.Safety.Tools.{client_server, longer_alive, lesser_alive, over_dead, zero_dead_client}
use Rattle.protocol.specs.Safety.Replaced.{with_tables, Replaced, ReplacedFor}
use Rattle.protocol.proofs.Safety.Replaced.{here_at, here_for, set_replaced, store_replaced}
use Rattle.protocol.proofs.Safety.Marks.{deserted_marks, deserted_keeps}
use Rattle.protocol.specs.Safety.Sending.{Keeps}
use Rattle.protocol.proofs.Safety.Sending.{each, acked_before}
use Rattle.protocol.specs.Safety.Completing.{Completes}

-- whom the write of o waits for is not counted on
abbrev Uncounted : Setup → Tables → ℕ → Type 0
Uncounted s t o = (d : ℕ) → d < s.clients → waiting_at t d o ≡ true → excuses_of t d (volume_of s o) o ≡ true

-- the write of o stands no more
still_other : {o : ℕ} {standing standing' : List Bool} → Replaced o false false standing standing' → (j : ℕ) → get_or standing' j false ≡ true → j ≡ o → ⊥
still_other standings j e q = not_both e (here_at standings j q)

-- the new version
next : {o : ℕ} {version version' : List ℕ} → Replaced o (get_or version o 0 + 1) 0 version version' → (j : ℕ) → j ≡ o → get_or version' j 0 ≡ get_or version j 0 + 1
next versions j q = rw q versions.here

-- no version falls
grown : {o : ℕ} {version version' : List ℕ} → Replaced o (get_or version o 0 + 1) 0 version version' → (j : ℕ) → get_or version j 0 ≤ get_or version' j 0
grown {o} versions j = ⊎_elim (λ q. let a = next versions j q in omega arith) (λ q. let a = versions.other j q in omega arith) (same? j o)

-- what a message says of o was of the old version
payload_posted : (o ver : ℕ) (p : Option ℕ) {value version : List ℕ} {new : ℕ} (value' version' : List ℕ) (j : ℕ) → Replaced o new 0 value value'
    → Replaced o (get_or version o 0 + 1) 0 version version' → ver ≤ get_or version j 0 → PayloadOk value version j ver p → PayloadOk value' version' j ver p
payload_posted o ver None value' version' j values versions h c = tt
payload_posted o ver (Some x) value' version' j values versions h c = λ e. ⊎_elim (here e) (λ q. rw (values.other j q) (c (e ∙ versions.other j q))) (same? j o)
  where
    here : ver ≡ get_or version' j 0 → j ≡ o → x ≡ get_or value' j 0
    here e q =
        let a = next versions j q in
        absurd (omega arith)

module _ (s : Setup) (o : ℕ) {epoch version version' : List ℕ} {standing standing' : List Bool} (versions : Replaced o (get_or version o 0 + 1) 0 version version')
    (standings : Replaced o false false standing standing') where
  invalidate_posted : {j e ver : ℕ} → InvalidateOk s epoch version standing j e ver → InvalidateOk s epoch version' standing' j e ver
  invalidate_posted {j} {e} {ver} c = record { exists = c.exists; reached = c.reached; recent = λ a. ⊎_elim (here (c.recent a)) (other (c.recent a)) (same? j o) }
    where
      here : Recent version standing j ver → j ≡ o → Recent version' standing' j ver
      here r q =
          let a = next versions j q in
          inl (⊎_elim (λ b. omega arith) (λ b. omega (arith, b.1)) r)

      other : Recent version standing j ver → (j ≡ o → ⊥) → Recent version' standing' j ver
      other r q = rw (versions.other j q, standings.other j q) r

  -- an ACK that would be taken would have been before
  acknowledges_posted : {j e ver : ℕ} → Acknowledges s epoch version' standing' j e ver → Acknowledges s epoch version standing j e ver
  acknowledges_posted {j} a =
      let ne = still_other standings j a.stands in
      record { stands = sym (standings.other j ne) ∙ a.stands; current = a.current; next = rw (versions.other j ne) at a.next }

-- ---- the write of o completes, and who is waited for is not counted on
module _ (s : Setup) (w : World) (o : ℕ) (inv : Inv s w) (ho : o < s.objects) (stands : standing_at w.tables o ≡ true) (may : Completes s w.tables o)
    (mark : Uncounted s w.tables o) where
  -- what a client holds to be alive, the server does, and anything later
  alive : (d : ℕ) {e f : ℕ} → client_alive (clocks_of w.tables d) e ≡ true → e ≤ f → server_alive w.tables.clock f ≡ true
  alive d {e} a h = longer_alive w.tables.clock h (client_server w.tables.clock d e a)

  -- no client has both leases
  not_both_leases : (d : ℕ) → d < s.clients → server_alive w.tables.clock (lease_at w.tables d o) ≡ true
      → server_alive w.tables.clock (session_expiry_at w.tables d (volume_of s o)) ≡ true → ⊥
  not_both_leases d hd a b = ⊎_elim waited unwaited (true_or_false (waiting_at w.tables d o))
    where
      waited : waiting_at w.tables d o ≡ true → ⊥
      waited e =
          ⊎_elim (λ p. not_both e (p.0 d hd))
          (λ p. not_both (lesser_alive w.tables.clock _ _ a b) (over_dead w.tables.clock (end_at w.tables o) _ p (inv.writes.waits d o hd ho stands e))) may

      unwaited : waiting_at w.tables d o ≡ false → ⊥
      unwaited e = ⊎_elim (λ p. not_both a p) (λ p. not_both b p.0) (inv.writes.others d o hd ho stands e)

  -- no lease from before the last restart is alive
  not_guarded : server_alive w.tables.clock (guard_at w.tables (volume_of s o)) ≡ true → ⊥
  not_guarded a =
      ⊎_elim (λ p. not_both a p.1) (λ p. not_both a (over_dead w.tables.clock (end_at w.tables o) _ p (inv.writes.guards o ho stands))) may

  -- no client with the object's lease is counted on
  not_counted : (d : ℕ) → d < s.clients → server_alive w.tables.clock (lease_at w.tables d o) ≡ true → excuses_of w.tables d (volume_of s o) o ≡ false → ⊥
  not_counted d hd a b = ⊎_elim waited unwaited (true_or_false (waiting_at w.tables d o))
    where
      waited : waiting_at w.tables d o ≡ true → ⊥
      waited e = not_both (mark d hd e) b

      unwaited : waiting_at w.tables d o ≡ false → ⊥
      unwaited e = ⊎_elim (λ p. not_both a p) (λ p. not_both p.1 b) (inv.writes.others d o hd ho stands e)

  module _ {version lease : List ℕ} (versions : Replaced o (version_at w.tables o + 1) 0 w.tables.objects.version version)
      (leases : ReplacedFor s o (λ _. 0) 0 w.tables.holders.lease lease)
      (d v : ℕ) (view : View) (hd : d < s.clients) where
    -- no view claims a copy of o
    unclaimed : view.known ≤ epoch_at w.tables v → CoveredIn s w.tables d v view → Held s (clocks_of w.tables d) v view o → Claimed (clocks_of w.tables d) (epoch_at w.tables v) (excuses_of w.tables d v) view o → ⊥
    unclaimed reached c h l = ⊎_elim (λ b. ⊎_elim (live b) (older b) (same? view.known (epoch_at w.tables v))) (λ b. not_counted d hd (leased b.0) (rw h.inside b.1)) l
      where
        leased : view.known ≡ epoch_at w.tables v → server_alive w.tables.clock (lease_at w.tables d o) ≡ true
        leased q = alive d h.alive ((c.holds o h l).1 q)

        live : client_alive (clocks_of w.tables d) view.expiry ≡ true → view.known ≡ epoch_at w.tables v → ⊥
        live b q = not_both_leases d hd (leased q) (rw h.inside (alive d b (c.current q)))

        older : client_alive (clocks_of w.tables d) view.expiry ≡ true → (view.known ≡ epoch_at w.tables v → ⊥) → ⊥
        older b q = not_guarded (rw h.inside (alive d b (c.older (omega arith))))

    covered_posted : view.known ≤ epoch_at w.tables v → CoveredIn s w.tables d v view
        → ViewOk s (clocks_of w.tables) w.tables.volumes.epoch w.tables.volumes.guard w.tables.sessions.expiry (excuses_of w.tables) version lease d v view
    covered_posted reached c = record {
      current = c.current;
      older = c.older;
      holds = λ j h l.
          ⊎_elim (λ q. absurd (unclaimed reached c (rw q at h) (rw q at l))) (λ q. rw (versions.other j q, leases.other d j h.exists q) (c.holds j h l)) (same? j o);
    }

    -- nor does what a DROPPED leaves include a lease on o
    remains_posted : (volume_of s o ≡ v → left (lease_at w.tables d o) ≡ 0) → RemainsIn s w.tables d v view → Remains s (clocks_of w.tables d) d v version lease view
    remains_posted none c = record {
      volume = c.volume;
      objects = λ j h. ⊎_elim (λ q. absurd (dead (rw q at h))) (λ q. rw (versions.other j q, leases.other d j h.exists q) (c.objects j h)) (same? j o);
    }
      where
        dead : Held s (clocks_of w.tables d) v view o → ⊥
        dead h = let a = (c.objects o h).1 in let b = none h.inside in zero_dead_client (clocks_of w.tables d) (omega arith) h.alive

module _ (s : Setup) (w : World) (o : ℕ) (range : Ranges s) (objects : ObjectsShape w.tables.objects) (holders : HoldersShape w.tables.holders) (inv : Inv s w) (ho : o < s.objects)
    (stands : standing_at w.tables o ≡ true) (may : Completes s w.tables o) (mark : Uncounted s w.tables o) where
  abbrev after : World
  after = with_tables w (with_holders (with_objects w.tables (posted w.tables o)) (released s w.tables o))

  few : o < 32
  few = let b = range.objects.1 in omega arith

  value : Replaced o (pending_at w.tables o) 0 w.tables.objects.value after.tables.objects.value
  unfolding posted released
  value = let b = few in set_replaced w.tables.objects.value o (pending_at w.tables o) 0 (omega (arith, objects.value))

  version : Replaced o (version_at w.tables o + 1) 0 w.tables.objects.version after.tables.objects.version
  unfolding posted released
  version = let b = few in set_replaced w.tables.objects.version o (version_at w.tables o + 1) 0 (omega (arith, objects.version))

  standing : Replaced o false false w.tables.objects.standing after.tables.objects.standing
  unfolding posted released
  standing = let b = few in set_replaced w.tables.objects.standing o false false (omega (arith, objects.standing))

  end : Replaced o 0 0 w.tables.objects.end after.tables.objects.end
  unfolding posted released
  end = let b = few in set_replaced w.tables.objects.end o 0 0 (omega (arith, objects.end))

  lease : ReplacedFor s o (λ _. 0) 0 w.tables.holders.lease after.tables.holders.lease
  unfolding posted released
  lease = store_replaced s w.tables.holders.lease o (λ (d : ℕ). 0) 0 range holders.lease ho

  waiting : Replaced o 0 0 w.tables.holders.waiting after.tables.holders.waiting
  unfolding posted released
  waiting = let b = few in set_replaced w.tables.holders.waiting o 0 0 (omega (arith, holders.waiting))

  keeps : Keeps s w after
  unfolding posted released
  keeps d (Renew j n e ver) z hd c = c
  keeps d (Grant j n x e ver y p) z hd c = record {
    exists = c.exists;
    header = c.header;
    reached = let a = c.reached in let b = grown version j in omega arith;
    payload = payload_posted o ver p _ _ j value version c.reached c.payload;
    object = c.object;
    unoffered = c.unoffered;
    held = c.held;
    covered = λ a. covered_posted s w o inv ho stands may mark version lease d (volume_of s j) _ hd c.header.reached (c.covered a);
  }
  keeps d (Invalidate j e ver) z hd c = invalidate_posted s o version standing c
  keeps d (Ack j e ver) z hd c = record {
    invalidate = invalidate_posted s o version standing c.invalidate;
    erased = λ a. c.erased (acknowledges_posted s o version standing a);
  }
  keeps d (Offer v n e) z hd c = c
  keeps d (Dropped v n e) z hd c = record {
    exists = c.exists;
    header = c.header;
    writes = λ a j h q b. let ne = still_other standing j b in rw (lease.other d j h ne) (c.writes a j h q (sym (standing.other j ne) ∙ b));
    remains = λ a b. remains_posted s w o inv ho stands may mark version lease d v _ hd (λ q. c.writes a o ho q stands) (c.remains a b);
  }
  keeps d (Batch v n e m) z hd c = c
  keeps d (Cleared v n e m) z hd c = c

  -- the write's value is posted, and all leases on its object go
  posted_keeps : Inv s after
  unfolding posted released
  posted_keeps = record {
    bounds = record {
      guards = inv.bounds.guards;
      volumes = inv.bounds.volumes;
      sessions = inv.bounds.sessions;
      objects = inv.bounds.objects;
      leases = λ d j hd hj.
          ⊎_elim (λ q. rw (here_for lease d j hd q) (omega arith)) (λ q. rw (lease.other d j hj q) (inv.bounds.leases d j hd hj)) (same? j o);
    };
    epochs = inv.epochs;
    numbers = inv.numbers;
    versions = record {
      positive = λ j hj. let a = inv.versions.positive j hj in let b = grown version j in omega arith;
      reached = λ d j hd hj. let a = inv.versions.reached d j hd hj in let b = grown version j in omega arith;
      values = λ d j hd hj.
          ⊎_elim
          (λ q e. let a = inv.versions.reached d j hd hj in let b = next version j q in absurd (omega arith))
          (λ q e. rw (value.other j q) (inv.versions.values d j hd hj (e ∙ version.other j q)))
          (same? j o);
    };
    offers = inv.offers;
    batches = inv.batches;
    writes = record {
      guards = λ j hj st. let ne = still_other standing j st in rw (end.other j ne) (inv.writes.guards j hj (sym (standing.other j ne) ∙ st));
      waits = λ d j hd hj st wt.
          let ne = still_other standing j st in
          rw (end.other j ne, lease.other d j hj ne) (inv.writes.waits d j hd hj (sym (standing.other j ne) ∙ st) (rw (waiting.other j ne) at wt));
      others = λ d j hd hj st wt.
          let ne = still_other standing j st in
          rw (lease.other d j hj ne) (inv.writes.others d j hd hj (sym (standing.other j ne) ∙ st) (rw (waiting.other j ne) at wt));
    };
    views = λ d v hd hv. covered_posted s w o inv ho stands may mark version lease d v _ hd (inv.epochs d v hd hv) (inv.views d v hd hv);
    messages = each inv keeps;
    pairs = acked_before s w _ _ _ inv (λ d j e ver c a. acknowledges_posted s o version standing a);
  }

-- completing marks, then posts and releases
pub completed_keeps : (s : Setup) (w : World) (o : ℕ) → Ranges s → Shape w.tables → o < s.objects → standing_at w.tables o ≡ true → Completes s w.tables o → Inv s w
    → Inv s (with_tables w (completed s w.tables o))
unfolding completed posted released
completed_keeps s w o range shape ho stands may inv =
    posted_keeps s (with_tables w (with_sessions w.tables (deserted s w.tables o))) o range shape.objects shape.holders
    (deserted_keeps s w o range ho shape.sessions inv) ho stands may (deserted_marks s w.tables o range ho shape.sessions)
