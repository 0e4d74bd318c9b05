-- The request records change: a number is taken, or the standing request ends. No message under way gets to answer a request that it did not answer before.
use Rattle.std.specs.Prelude.{ℕ, ◌+◌, ◌<◌, ◌≤◌, List, ◌≡◌, refl, length, set}
use Rattle.std.proofs.Common.{arith, ⊎_elim, ap, ◌∙◌, get_or-set_same, get_or-set_other, eq-eqb}
use Rattle.std.proofs.Math.Bool.{true}
use Rattle.std.proofs.lemmas.List.{set-get_or}
use Rattle.laws.specs.Choice.{same?, cond_keeps, not_both, both_true}
use Rattle.protocol.specs.declared.message.Kind.{Kind}
use Rattle.protocol.specs.declared.message.Kind.TheVariants.{Renew, Grant, Invalidate, Ack, Offer, Dropped, Batch, Cleared}
use Rattle.protocol.specs.declared.records.Request.{Request}
use Rattle.protocol.specs.declared.setup.Setup.{Setup}
use Rattle.protocol.specs.declared.step.Turn.{Turn}
use Rattle.protocol.specs.Tables.{no_request}
use Rattle.protocol.specs.Client.{numbered, ended, turned, forgotten, asks_for}
use Rattle.protocol.specs.World.{World}
use Rattle.protocol.specs.Soundness.Shape.{WorldShape}
use Rattle.protocol.specs.Safety.View.{Stands, request_at}
use Rattle.protocol.specs.Safety.Invariant.{Inv, Numbers, Header, HeaderIn, KindOk, Bringing}
use Rattle.protocol.specs.Safety.Sending.{Keeps}
use Rattle.protocol.proofs.Safety.Sending.{each, bringing_case}
use Rattle.protocol.specs.Safety.Requests.{requesting, Moves}

module _ (s : Setup) (w : World) (inv : Inv s w) (requests : List Request) (moves : Moves w.requests requests) where
  pub header : (d v n e : ℕ) → HeaderIn w.tables w.requests d v n e → Header w.tables.volumes.epoch w.tables.sessions.seen requests d v n e
  header d v n e h = record { reached = h.reached; taken = omega (arith, h.taken, moves.next d); noticed = h.noticed }

  keeps : Keeps s w (requesting w requests)
  keeps d (Renew o n e ver) z hd c = record {
    exists = c.exists;
    reached = c.reached;
    taken = omega (arith, c.taken, moves.next d);
    object = λ a. moves.object d n c.taken a ∙ c.object (moves.stands d n c.taken a);
    knows = λ a. c.knows (moves.stands d n c.taken a);
    held = λ a. c.held (moves.stands d n c.taken a);
  }
  keeps d (Grant o n x e ver y p) z hd c =
      let b : Stands requests d n → Stands w.requests d n = moves.stands d n c.header.taken in
      record {
        exists = c.exists;
        header = header d _ n e c.header;
        reached = c.reached;
        payload = c.payload;
        object = λ a. moves.object d n c.header.taken a ∙ c.object (b a);
        unoffered = λ a. c.unoffered (b a);
        held = λ a. c.held (b a);
        covered = λ a. c.covered (b a);
      }
  keeps d (Invalidate o e ver) z hd c = c
  keeps d (Ack o e ver) z hd c = c
  keeps d (Offer v n e) z hd c = record { exists = c.exists; header = header d v n e c.header }
  keeps d (Dropped v n e) z hd c = record { exists = c.exists; header = header d v n e c.header; writes = c.writes; remains = c.remains }
  keeps d (Batch v n e m) z hd c = record { exists = c.exists; header = header d v n e c.header }
  keeps d (Cleared v n e m) z hd c = record { exists = c.exists; header = header d v n e c.header; unheld = c.unheld }

  -- no GRANT gets to bring what it did not before
  brought : (d o : ℕ) (g : Kind) → KindOk s w d g → Bringing requests d o g → Bringing w.requests d o g
  brought d o g c b = bringing_case (λ (h : Kind). KindOk s w d h → Bringing w.requests d o h) (λ n x e ver y p a h. (refl, moves.stands d n h.header.taken a)) g b c

  pub moved : Numbers s w.tables.sessions.seen requests → Inv s (requesting w requests)
  moved numbers = record {
    bounds = inv.bounds;
    epochs = inv.epochs;
    numbers = numbers;
    versions = inv.versions;
    offers = inv.offers;
    batches = inv.batches;
    writes = inv.writes;
    views = inv.views;
    messages = each inv keeps;
    pairs = λ m g a b. record { acked = λ o e k r. (inv.pairs m g a b).acked o e k (brought g.client o g.kind (inv.messages g b).kind r) };
  }

-- ---- one record replaced

pub has_record : {s : Setup} {w : World} {d : ℕ} → WorldShape s w → d < s.clients → d < length w.requests
has_record shape hd = rw shape.requests hd

module _ (requests : List Request) (d : ℕ) (here : d < length requests) where
  abbrev pub with_record : Request → List Request
  with_record r = set requests d r

  pub same_record : (r : Request) → request_at (with_record r) d ≡ r
  same_record r = get_or-set_same requests d r no_request here

  this_record : (r : Request) (k : ℕ) → k ≡ d → request_at (with_record r) k ≡ r
  this_record r k e = ap (request_at (with_record r)) e ∙ same_record r

  other_record : (r : Request) (k : ℕ) → (k ≡ d → ⊥) → request_at (with_record r) k ≡ request_at requests k
  other_record r k h = get_or-set_other requests d k r no_request h

  -- a client whose record stays
  elsewhere : (r : Request) (k n : ℕ) → (k ≡ d → ⊥) → Stands (with_record r) k n → Stands requests k n
  elsewhere r k n h a = let e = other_record r k h in record { there = rw e at a.there; same = rw e at a.same }

  -- a record in which no number stands, or the next one
  module _ (r : Request) (grows : (request_at requests d).next ≤ r.next) (old : (n : ℕ) → n < (request_at requests d).next → r.standing ≡ true → r.number ≡ n → ⊥) where
    pub replaced_moves : Moves requests (with_record r)
    replaced_moves = record {
      next = λ k. ⊎_elim (λ e. rw (this_record r k e, e) grows) (λ e. rw (other_record r k e) (omega arith)) (same? k d);
      stands = λ k n h a. ⊎_elim (λ e. gone k n e h a) (λ e. elsewhere r k n e a) (same? k d);
      object = λ k n h a. ⊎_elim (λ e. gone k n e h a) (λ e. ap (λ (q : Request). q.object) (other_record r k e)) (same? k d);
    }
      where
        gone : {A : Type 0} (k n : ℕ) → k ≡ d → n < (request_at requests k).next → Stands (with_record r) k n → A
        gone k n e h a =
            let q = rw (this_record r k e) at a.there in
            let p = rw (this_record r k e) at a.same in
            absurd (old n (rw e at h) q p)

  -- the standing request ends
  pub ended_moves : Moves requests (with_record (ended (request_at requests d)))
  ended_moves = replaced_moves (ended (request_at requests d)) (omega arith) (λ n h a b. not_both a refl)

  -- .. and none stands
  pub ended_idle : (n : ℕ) → Stands (with_record (ended (request_at requests d))) d n → ⊥
  ended_idle n a = let p = rw (same_record (ended (request_at requests d))) at a.there in not_both p refl

  -- the next number is taken
  pub numbered_moves : (o : ℕ) → Moves requests (with_record (numbered (request_at requests d) o))
  numbered_moves o = replaced_moves (numbered (request_at requests d) o) (omega arith) (λ n h a b. omega arith)

  -- "forget a standing request for that object": none for it stands
  pub forgotten_gone : (o n : ℕ) → Stands (with_record (turned (request_at requests d) (forgotten (request_at requests d) o))) d n
      → (request_at (with_record (turned (request_at requests d) (forgotten (request_at requests d) o))) d).object ≡ o → ⊥
  unfolding forgotten
  forgotten_gone o n a b =
      let p = rw (same_record (turned (request_at requests d) (forgotten (request_at requests d) o))) at a.there in
      let q = rw (same_record (turned (request_at requests d) (forgotten (request_at requests d) o))) at b in
      none o p q
    where
      none : (o : ℕ) → (turned (request_at requests d) (forgotten (request_at requests d) o)).standing ≡ true
          → (turned (request_at requests d) (forgotten (request_at requests d) o)).object ≡ o → ⊥
      none o = cond_keeps (λ (u : Turn). (turned (request_at requests d) u).standing ≡ true → (turned (request_at requests d) u).object ≡ o → ⊥) (asks_for (request_at requests d) o)
          (λ e p q. not_both p refl) (λ e p q. not_both (both_true p (eq-eqb _ _ q)) e)

  -- what is said of the numbers, with the new record
  pub replaced_numbers : (s : Setup) (seen : List ℕ) → Numbers s seen requests → (r : Request) → (r.standing ≡ true → r.number + 1 ≡ r.next)
      → (request_at requests d).next ≤ r.next → Numbers s seen (with_record r)
  replaced_numbers s seen numbers r last grows = record {
    last = λ k h a. ⊎_elim
        (λ e. let a' = rw (this_record r k e) at a in rw (this_record r k e) (last a'))
        (λ e. let a' = rw (other_record r k e) at a in rw (other_record r k e) (numbers.last k h a'))
        (same? k d);
    past = λ k h. ⊎_elim
        (λ e. let p = rw e at (numbers.past k h) in rw (this_record r k e) (rw e (omega arith)))
        (λ e. rw (other_record r k e) (numbers.past k h))
        (same? k d);
  }

-- ---- the whole, after each of these
module _ (s : Setup) (w : World) (inv : Inv s w) (d : ℕ) (here : d < length w.requests) where
  abbrev now : Request
  now = request_at w.requests d

  pub request_ends : Inv s (requesting w (set w.requests d (ended now)))
  request_ends =
      moved s w inv _ (ended_moves w.requests d here)
      (replaced_numbers w.requests d here s _ inv.numbers (ended now) (λ e. not_both e refl) (omega arith))

  pub request_taken : (o : ℕ) → Inv s (requesting w (set w.requests d (numbered now o)))
  request_taken o =
      moved s w inv _ (numbered_moves w.requests d here o)
      (replaced_numbers w.requests d here s _ inv.numbers (numbered now o) (λ e. refl) (omega arith))

  pub request_forgotten : d < s.clients → (o : ℕ) → Inv s (requesting w (set w.requests d (turned now (forgotten now o))))
  unfolding forgotten
  request_forgotten h o =
      cond_keeps (λ (u : Turn). Inv s (requesting w (set w.requests d (turned now u)))) (asks_for now o) (λ e. request_ends)
      (λ e. rw (set-get_or w.requests d no_request) inv)
