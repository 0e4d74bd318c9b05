-- The server notes a request number, and makes an offer or sends a batch under a number that it has not seen.
use Rattle.std.specs.Prelude.{ℕ, ◌<◌, ◌≤◌, true, false, List, ◌≡◌, length, get_or, set}
use Rattle.std.proofs.Common.{arith, sym, ◌∙◌}
use Rattle.std.proofs.Math.Logic.{⊎_elim}
use Rattle.std.proofs.Math.Path.{ap}
use Rattle.laws.specs.Store.{set_at}
use Rattle.protocol.specs.declared.message.Kind.TheVariants.{Renew, Grant, Invalidate, Ack, Offer, Dropped, Batch, Cleared}
use Rattle.protocol.specs.declared.setup.Setup.{Setup}
use Rattle.protocol.specs.Tables.{by_volume, epoch_at, seen_at, unreachable_at, notes_at, with_sessions}
use Rattle.protocol.specs.Server.{noted}
use Rattle.protocol.specs.Updates.{with_offer, with_batch}
use Rattle.protocol.specs.World.{World}
use Rattle.protocol.specs.Safety.View.{Stands, request_at}
use Rattle.protocol.specs.Safety.Invariant.{Inv, Header, HeaderIn, Answers}
use Rattle.protocol.specs.Safety.Stores.{After}
use Rattle.protocol.proofs.Safety.Stores.{volume_set}
use Rattle.protocol.specs.Safety.Replaced.{with_tables}
use Rattle.protocol.specs.Safety.Sending.{Keeps}
use Rattle.protocol.proofs.Safety.Sending.{each}
use Rattle.protocol.specs.Ranges.{Ranges}

module _ (s : Setup) (w : World) (inv : Inv s w) (d n : ℕ) (full : length w.tables.sessions.seen ≡ 16) (hd : d < 16)
    (new : seen_at w.tables d < n) (taken : n < (request_at w.requests d).next) where
  abbrev seen : List ℕ
  seen = set w.tables.sessions.seen d n

  grows : (k : ℕ) → seen_at w.tables k ≤ get_or seen k 0
  grows k = ⊎_elim (λ a. let e = ap (seen_at w.tables) a.0 in omega (arith, a.1)) (λ a. omega (arith, a.1)) (set_at w.tables.sessions.seen d n k 0 (omega arith))

  header : (k v n' e : ℕ) → HeaderIn w.tables w.requests k v n' e → Header w.tables.volumes.epoch seen w.requests k v n' e
  header k v n' e h = record { reached = h.reached; taken = h.taken; noticed = λ a. let b = h.noticed a in let l = grows k in omega arith }

  pub noted_keeps : Inv s (with_tables w (noted w.tables d n))
  unfolding noted
  noted_keeps = record {
    bounds = inv.bounds;
    epochs = inv.epochs;
    numbers = record {
      last = inv.numbers.last;
      past = λ k h. ⊎_elim (λ a. let e = ap (λ (i : ℕ). (request_at w.requests i).next) a.0 in omega (arith, a.1)) (λ a. let b = inv.numbers.past k h in omega (arith, a.1))
          (set_at w.tables.sessions.seen d n k 0 (omega arith));
    };
    versions = inv.versions;
    offers = inv.offers;
    batches = inv.batches;
    writes = inv.writes;
    views = inv.views;
    messages = each inv keeps;
    pairs = inv.pairs;
  }
    where
      keeps : Keeps s w (with_tables w (noted w.tables d n))
      keeps k (Renew o n' e ver) z hk c = c
      keeps k (Grant o n' x e ver y p) z hk c = record {
        exists = c.exists;
        header = header k _ n' e c.header;
        reached = c.reached;
        payload = c.payload;
        object = c.object;
        unoffered = c.unoffered;
        held = c.held;
        covered = c.covered;
      }
      keeps k (Invalidate o e ver) z hk c = c
      keeps k (Ack o e ver) z hk c = c
      keeps k (Offer v n' e) z hk c = record { exists = c.exists; header = header k v n' e c.header }
      keeps k (Dropped v n' e) z hk c = record { exists = c.exists; header = header k v n' e c.header; writes = c.writes; remains = c.remains }
      keeps k (Batch v n' e m) z hk c = record { exists = c.exists; header = header k v n' e c.header }
      keeps k (Cleared v n' e m) z hk c = record { exists = c.exists; header = header k v n' e c.header; unheld = c.unheld }

-- ---- N1: a number above the highest seen is new. A message of the server's epoch does not have it, and the message's own number stands no more
new_number : (s : Setup) (w : World) → Inv s w → (d n : ℕ) → d < s.clients → seen_at w.tables d < n → n < (request_at w.requests d).next
    → (v n' e : ℕ) → HeaderIn w.tables w.requests d v n' e → e ≡ epoch_at w.tables v → (n' ≡ n → ⊥) × (Stands w.requests d n' → ⊥)
new_number s w inv d n hd new taken v n' e h a =
    let b = h.noticed a in
    (λ q. omega arith, λ q. let l = inv.numbers.last d hd q.there in let r = q.same in omega arith)

-- such a number in a field l per client and volume
module _ (s : Setup) (range : Ranges s) (w : World) (inv : Inv s w) (d v n : ℕ) (hd : d < s.clients) (hv : v < s.volumes)
    (new : seen_at w.tables d < n) (taken : n < (request_at w.requests d).next) (l : List ℕ) (full : length l ≡ 128) where
  abbrev numbers : List ℕ
  numbers = set l (by_volume d v) n

  at_number : (k u : ℕ) → u < s.volumes → After d v k u (get_or numbers (by_volume k u) 0) n (get_or l (by_volume k u) 0)
  at_number k u h = volume_set range hd hv l n 0 full k u h

  unused : (k u n' e : ℕ) → k ≡ d → HeaderIn w.tables w.requests k u n' e → e ≡ epoch_at w.tables u → (n' ≡ n → ⊥) × (Stands w.requests k n' → ⊥)
  unused k u n' e q h a = let h' = rw q at h in rw q (new_number s w inv d n hd new taken u n' e h' a)

  -- no GRANT that could be taken meets it
  unmet : (k u n' e : ℕ) → u < s.volumes → HeaderIn w.tables w.requests k u n' e → e ≡ epoch_at w.tables u → Stands w.requests k n'
      → get_or l (by_volume k u) 0 ≡ 0 → get_or numbers (by_volume k u) 0 ≡ 0
  unmet k u n' e hu h b a z = ⊎_elim (λ q. absurd ((unused k u n' e q.0 h b).1 a)) (λ q. q.1 ∙ z) (at_number k u hu)

  -- no DROPPED or CLEARED under way answers it
  answered : (k u n' e : ℕ) → u < s.volumes → HeaderIn w.tables w.requests k u n' e → Answers w.tables.volumes.epoch numbers k u n' e
      → Answers w.tables.volumes.epoch l k u n' e
  answered k u n' e hu h a =
      ⊎_elim (λ q. absurd ((unused k u n' e q.0 h a.current).0 (sym a.same ∙ q.2)))
      (λ q. record { current = a.current; nonzero = a.nonzero; same = sym q.1 ∙ a.same }) (at_number k u hu)

-- ---- an offer to a marked client
module _ (s : Setup) (range : Ranges s) (w : World) (inv : Inv s w) (d v n : ℕ) (full : length w.tables.sessions.offer ≡ 128) (hd : d < s.clients) (hv : v < s.volumes)
    (marked : unreachable_at w.tables d v ≡ true) (new : seen_at w.tables d < n) (taken : n < (request_at w.requests d).next) where
  abbrev offer : List ℕ
  offer = w.tables.sessions.offer

  abbrev offering : World
  offering = with_tables w (with_sessions w.tables (with_offer w.tables.sessions (set offer (by_volume d v) n)))

  offering_keeps : Keeps s w offering
  offering_keeps k (Renew o n' e ver) z hk c = c
  offering_keeps k (Grant o n' x e ver y p) z hk c = record {
    exists = c.exists;
    header = c.header;
    reached = c.reached;
    payload = c.payload;
    object = c.object;
    unoffered = λ a b. let q = c.unoffered a b in (unmet s range w inv d v n hd hv new taken offer full k _ n' e (range.within o c.exists) c.header b a q.0, q.1);
    held = c.held;
    covered = c.covered;
  }
  offering_keeps k (Invalidate o e ver) z hk c = c
  offering_keeps k (Ack o e ver) z hk c = c
  offering_keeps k (Offer u n' e) z hk c = c
  offering_keeps k (Dropped u n' e) z hk c = record {
    exists = c.exists;
    header = c.header;
    writes = λ a. c.writes (answered s range w inv d v n hd hv new taken offer full k u n' e c.exists c.header a);
    remains = λ a. c.remains (answered s range w inv d v n hd hv new taken offer full k u n' e c.exists c.header a);
  }
  offering_keeps k (Batch u n' e m) z hk c = c
  offering_keeps k (Cleared u n' e m) z hk c = c

  pub offer_keeps : Inv s offering
  offer_keeps = record {
    bounds = inv.bounds;
    epochs = inv.epochs;
    numbers = inv.numbers;
    versions = inv.versions;
    offers = λ k u hk hu ne. ⊎_elim (λ a. rw (a.0, a.1) marked) (λ a. inv.offers k u hk hu (λ e. ne (a.1 ∙ e))) (at_number s range w inv d v n hd hv new taken offer full k u hu);
    batches = inv.batches;
    writes = inv.writes;
    views = inv.views;
    messages = each inv offering_keeps;
    pairs = inv.pairs;
  }

-- ---- a batch to a client with notes that is not marked
module _ (s : Setup) (range : Ranges s) (w : World) (inv : Inv s w) (d v n : ℕ) (full : length w.tables.sessions.batch ≡ 128) (hd : d < s.clients) (hv : v < s.volumes)
    (reachable : unreachable_at w.tables d v ≡ false) (notes : notes_at w.tables d v ≡ 0 → ⊥) (new : seen_at w.tables d < n) (taken : n < (request_at w.requests d).next) where
  abbrev batch : List ℕ
  batch = w.tables.sessions.batch

  abbrev batching : World
  batching = with_tables w (with_sessions w.tables (with_batch w.tables.sessions (set batch (by_volume d v) n)))

  batching_keeps : Keeps s w batching
  batching_keeps k (Renew o n' e ver) z hk c = c
  batching_keeps k (Grant o n' x e ver y p) z hk c = record {
    exists = c.exists;
    header = c.header;
    reached = c.reached;
    payload = c.payload;
    object = c.object;
    unoffered = λ a b. let q = c.unoffered a b in (q.0, unmet s range w inv d v n hd hv new taken batch full k _ n' e (range.within o c.exists) c.header b a q.1);
    held = c.held;
    covered = c.covered;
  }
  batching_keeps k (Invalidate o e ver) z hk c = c
  batching_keeps k (Ack o e ver) z hk c = c
  batching_keeps k (Offer u n' e) z hk c = c
  batching_keeps k (Dropped u n' e) z hk c = c
  batching_keeps k (Batch u n' e m) z hk c = c
  batching_keeps k (Cleared u n' e m) z hk c = record {
    exists = c.exists;
    header = c.header;
    unheld = λ a. c.unheld (answered s range w inv d v n hd hv new taken batch full k u n' e c.exists c.header a);
  }

  pub batch_keeps : Inv s batching
  batch_keeps = record {
    bounds = inv.bounds;
    epochs = inv.epochs;
    numbers = inv.numbers;
    versions = inv.versions;
    offers = inv.offers;
    batches = λ k u hk hu ne. ⊎_elim (λ a. rw (a.0, a.1) (notes, reachable)) (λ a. inv.batches k u hk hu (λ e. ne (a.1 ∙ e))) (at_number s range w inv d v n hd hv new taken batch full k u hu);
    writes = inv.writes;
    views = inv.views;
    messages = each inv batching_keeps;
    pairs = inv.pairs;
  }
