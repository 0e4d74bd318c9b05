-- What a step makes of a copy: it stays, a GRANT fills it, an INVALIDATE, a BATCH or a restart of its client erases it, or an OFFER ends its lease. There is no other way.
-- Letters: s setup, w world, x a step, d client, o object, g the copy after the step, m the message that is delivered, k its kind; of a message i is the
-- object, v the volume, n the number, e the epoch, ver the version, p and q the volume and object expiry, y the payload.
use Rattle.std.specs.Prelude.{ℕ, ◌*◌, ◌+◌, ◌<◌, ◌≤◌, cond, ◌&&◌, List, ◌≡◌, eqb, ltb, set, Option}
use Rattle.std.proofs.Math.Bool.{true}
use Rattle.std.proofs.Math.Logic.{⊎_elim}
use Rattle.std.proofs.Math.Path.{refl, ap}
use Rattle.std.proofs.Common.{sym, ◌∙◌}
use Rattle.std.proofs.lemmas.List.{set-get_or}
use borrow.Author.Tests.{ltb-true, eqb-true, eq-eqb}
use Rattle.laws.specs.Choice.{cond_keeps, true_or_false, not_both, same?, and-true, both_true}
use Rattle.laws.specs.Sets.{bit_at}
use Rattle.protocol.specs.declared.message.Kind.{Kind}
use Rattle.protocol.specs.declared.message.Kind.TheVariants.{Renew, Grant, Invalidate, Ack, Offer, Dropped, Batch, Cleared}
use Rattle.protocol.specs.declared.message.Message.{Message}
use Rattle.protocol.specs.declared.records.Copy.{Copy}
use Rattle.protocol.specs.declared.setup.Setup.{Setup}
use Rattle.protocol.specs.declared.step.Answer.{Answer}
use Rattle.protocol.specs.declared.step.Change.{Change}
use Rattle.protocol.specs.declared.step.CopyChange.TheVariants as copy
use Rattle.protocol.specs.declared.step.Decision.{Decision}
use Rattle.protocol.specs.declared.step.Step.{Step}
use Rattle.protocol.specs.declared.step.Sweep.TheVariants as sweep
use Rattle.protocol.specs.declared.step.Turn.{Turn}
use Rattle.protocol.specs.declared.step.Turn.TheVariants as request
use Rattle.protocol.specs.declared.tables.Tables.{Tables}
use Rattle.protocol.specs.Setup.{volume_of}
use Rattle.protocol.specs.Ranges.{Ranges}
use Rattle.protocol.proofs.Ranges.{ranges}
use Rattle.protocol.specs.Messages.{object_of}
use Rattle.protocol.specs.Tables.{no_copy}
use Rattle.protocol.specs.Client.{showable, stands, grant_stored, filled as filledBy, changed, swept, swept_all}
use Rattle.protocol.proofs.SoundLaws.{named}
use Rattle.protocol.specs.Gate.{is_deliver}
use Rattle.protocol.specs.Writes.{Counted}
use Rattle.protocol.specs.Sound.{time_fits, kind_sound}
use Rattle.protocol.specs.Decide.{Received, uncounted, by_server, answered, delivered, taken, read_decided, ask_decided, deliver_decided, restart_decided, grant_received, invalidate_received, offer_received, batch_received, received}
use Rattle.protocol.specs.World.{World, target, copies_after, stepped}
use Rattle.protocol.specs.Ledger.{accepts}
use Rattle.protocol.specs.Soundness.StepCases.{Accepted, copy_of, request_of, records_of}
use Rattle.protocol.proofs.Soundness.StepCases.{accepted, by_kind, performed_of, copies_after_law, refused_keeps, setup_in_range, client_exists, clock_performed, read_performed, ask_performed, write_performed, deliver_performed, lose_performed, double_performed, server_performed, client_performed}
use Rattle.protocol.proofs.Soundness.Bounds.{named_at}
use Rattle.protocol.specs.Soundness.Question.{SoundWorld}
use Rattle.protocol.specs.Safety.View.{copy_at, request_at}
use Rattle.protocol.specs.Safety.Stores.{After}
use Rattle.protocol.proofs.Safety.Stores.{at_place, copy_set}
use Rattle.protocol.proofs.Safety.Sweeping.{swept_own, swept_other, swept_keep}
use Rattle.promises.specs.Reasons.Worth.{Worth}
use Rattle.promises.specs.Reasons.Events.{delivered_by, delivers_to, is_grant, grants, invalidates, offers, restarts, cause}
use Rattle.promises.specs.Reasons.Fates.{ended, Fate, stays, filled, invalidated, offered, batched, restarted}

module _ (s : Setup) (w : World) (x : Step) (sound : SoundWorld s w) (d o : ℕ) (hd : d < s.clients) (ho : o < s.objects) where
  abbrev Left : Type 0
  Left = Fate s w x d o (copy_at s (stepped s w x).copies d o)

  abbrev c : Copy
  c = copy_at s w.copies d o

  module _ (a : accepts s w x ≡ true) where
    facts : Accepted s w.tables (records_of s w) (request_of s w x) x
    facts = accepted s w x a

    range : Ranges s
    range = ranges s (setup_in_range facts)

    leaves : (g : Decision) → performed_of s w x ≡ g → copy_at s (stepped s w x).copies d o ≡ copy_at s (copies_after s w.copies (target s w.tables x) g) d o
    leaves g e = ap (λ (l : List Copy). copy_at s l d o) (copies_after_law s w x a ∙ ap (copies_after s w.copies (target s w.tables x)) e)

    -- no copy is touched
    untouched : (r : Turn) (t : Tables) (b : Answer) → performed_of s w x ≡ answered (record { copy = copy.Keep; request = r; sweep = sweep.Keep }) t b → Left
    untouched r t b e = stays (leaves g e ∙ same)
      where
        g : Decision
        g = answered (record { copy = copy.Keep; request = r; sweep = sweep.Keep }) t b

        same : copy_at s (copies_after s w.copies (target s w.tables x) g) d o ≡ c
        same = rw (set-get_or w.copies, swept_keep s)

    by_read : x.kind ≡ 2 → Left
    unfolding read_decided
    by_read e =
        cond_keeps (λ (g : Decision). performed_of s w x ≡ g → Left) (showable s w.tables (copy_of s w x) x.client x.object)
        (λ _ h. untouched request.Keep _ _ h) (λ _ h. untouched request.Keep _ _ h) (read_performed s w.tables (copy_of s w x) (request_of s w x) x e)

    by_ask : x.kind ≡ 3 → Left
    unfolding ask_decided
    by_ask e = untouched _ _ _ (ask_performed s w.tables (copy_of s w x) (request_of s w x) x e)

    by_restart : x.kind ≡ 9 → Left
    unfolding restart_decided restarts cause swept target
    by_restart e = ⊎_elim own other (same? d x.client)
      where
        hx : x.client < s.clients
        hx = client_exists facts.passes (rw e)

        left : copy_at s (stepped s w x).copies d o ≡ copy_at s (swept_all s sweep.Erase (x.client * s.objects) w.copies) d o
        left = leaves _ (client_performed s w.tables (copy_of s w x) (request_of s w x) x e) ∙ rw (e, set-get_or w.copies)

        own : d ≡ x.client → Left
        own q = restarted (rw (a, e, eq-eqb x.client d (sym q))) (rw e) (left ∙ rw q (swept_own s w.copies x.client sound.shape.copies hx sweep.Erase o ho))

        other : (d ≡ x.client → ⊥) → Left
        other q = stays (left ∙ swept_other s w.copies x.client sound.shape.copies hx sweep.Erase d o q ho)

    -- ---- a message
    abbrev m : Message
    m = delivered_by w x

    module _ (e : x.kind ≡ 5) where
      hm : m.client < s.clients
      hm = (named s m (named_at s range w.tables x.place sound.bounds.tables)).0

      asked : kind_sound s m.kind ≡ true
      asked = (named s m (named_at s range w.tables x.place sound.bounds.tables)).1

      -- what its receipt is
      abbrev receipt : Kind → Received
      receipt k = received s (taken w.tables x.place) (copy_at s w.copies m.client (object_of k)) (request_at w.requests m.client) m.client k

      decides : (k : Kind) → m.kind ≡ k → performed_of s w x ≡ delivered m (receipt k)
      unfolding target deliver_decided
      decides k h = deliver_performed s w.tables (copy_of s w x) (request_of s w x) x e ∙ rw (e, h)

      -- what it leaves of the copies
      abbrev copies_by : Kind → Change → List Copy
      copies_by k g =
          swept_all s g.sweep (m.client * s.objects)
          (set w.copies (m.client * s.objects + object_of k) (changed (copy_at s w.copies m.client (object_of k)) g.copy))

      after : (k : Kind) → m.kind ≡ k → (g : Change) → (receipt k).change ≡ g → copy_at s (stepped s w x).copies d o ≡ copy_at s (copies_by k g) d o
      unfolding target
      after k h g q = leaves (delivered m (receipt k)) (decides k h) ∙ rw (e, h, q)

      -- the server's, or one of which nothing comes
      by_server_law : (k : Kind) → m.kind ≡ k → (n : Counted) → receipt k ≡ by_server n → Left
      by_server_law k h n q = untouched request.Keep _ _ (decides k h ∙ ap (delivered m) q)

      -- what it stores in one copy
      stored : (i : ℕ) → i < s.objects → (f : Copy) → After m.client i d o (copy_at s (set w.copies (m.client * s.objects + i) f) d o) f c
      stored i hi f = copy_set s hm hi w.copies f sound.shape.copies d o ho

      module _ (i n p f ver q : ℕ) (y : Option ℕ) (h : m.kind ≡ Grant i n p f ver q y) where
        granted_exists : i < s.objects
        granted_exists = ltb-true _ _ (and-true (ltb i s.objects) _ (and-true (ltb i s.objects && time_fits p) (time_fits q) (rw h at asked)).0).0

        new : Copy
        new = filledBy (copy_at s w.copies m.client i) ver q y

        grant_left : stands (request_at w.requests m.client) n ≡ true → copy_at s (stepped s w x).copies d o ≡ copy_at s (set w.copies (m.client * s.objects + i) new) d o
        unfolding received grant_received new
        grant_left z = after (Grant i n p f ver q y) h (grant_stored (copy_at s w.copies m.client i) ver q y) (rw z) ∙ rw (swept_keep s)

        grant_fills : is_grant (request_at w.requests m.client) o m.kind ≡ true → d ≡ m.client → (copy_at s (stepped s w x).copies d o).version ≡ ver
        unfolding new
        grant_fills g b =
            let r = and-true (eqb i o) (stands (request_at w.requests m.client) n) (rw h at g) in
            ap (λ (c : Copy). c.version) (grant_left r.1 ∙ at_place (stored i granted_exists new) b (sym (eqb-true i o r.0)))

        by_grant : Left
        unfolding received grant_received grants
        by_grant = ⊎_elim taking (λ z. by_server_law _ h (uncounted (taken w.tables x.place)) (rw z)) (true_or_false (stands (request_at w.requests m.client) n))
          where
            granting : stands (request_at w.requests m.client) n ≡ true → d ≡ m.client → o ≡ i → grants s w x d o ≡ true
            granting z b k = rw (a, e, b, k, h, eq-eqb m.client m.client refl, eq-eqb i i refl, z)

            taking : stands (request_at w.requests m.client) n ≡ true → Left
            taking z = ⊎_elim (λ b. filled (granting z b.0 b.1)) (λ b. stays (grant_left z ∙ b.1)) (stored i granted_exists new)

      by_invalidate : (i f ver : ℕ) → m.kind ≡ Invalidate i f ver → Left
      unfolding received invalidate_received invalidates cause
      by_invalidate i f ver h =
          ⊎_elim (λ b. invalidated (telling b.0 b.1) (rw (e, h)) (left ∙ b.2)) (λ b. stays (left ∙ b.1)) (stored i (ltb-true _ _ (rw h at asked)) no_copy)
        where
          left : copy_at s (stepped s w x).copies d o ≡ copy_at s (set w.copies (m.client * s.objects + i) no_copy) d o
          left = after (Invalidate i f ver) h _ refl ∙ rw (swept_keep s)

          telling : d ≡ m.client → o ≡ i → invalidates s w x d o ≡ true
          telling b k = rw (a, e, b, k, h, eq-eqb m.client m.client refl, eq-eqb i i refl)

      by_offer : (v n f : ℕ) → m.kind ≡ Offer v n f → Left
      unfolding received offer_received offers cause swept
      by_offer v n f h = ⊎_elim taking (λ z. by_server_law _ h (uncounted (taken w.tables x.place)) (rw z)) (true_or_false (stands (request_at w.requests m.client) n))
        where
          taking : stands (request_at w.requests m.client) n ≡ true → Left
          taking z = ⊎_elim own (λ b. stays (left ∙ swept_other s w.copies m.client sound.shape.copies hm (sweep.Expire v) d o b ho)) (same? d m.client)
            where
              left : copy_at s (stepped s w x).copies d o ≡ copy_at s (swept_all s (sweep.Expire v) (m.client * s.objects) w.copies) d o
              left = after (Offer v n f) h (record { copy = copy.Keep; request = request.End; sweep = sweep.Expire v }) (rw z) ∙ rw (set-get_or w.copies)

              here : d ≡ m.client → copy_at s (stepped s w x).copies d o ≡ cond (eqb (volume_of s o) v) (ended c) c
              here b = left ∙ rw b (swept_own s w.copies m.client sound.shape.copies hm (sweep.Expire v) o ho)

              own : d ≡ m.client → Left
              own b =
                  ⊎_elim (λ k. offered (rw (a, e, b, h, eq-eqb m.client m.client refl, z) (both_true k refl)) (rw (e, h)) (rw k at here b)) (λ k. stays (rw k at here b))
                  (true_or_false (eqb (volume_of s o) v))

      by_batch : (v n f b : ℕ) → m.kind ≡ Batch v n f b → Left
      unfolding received batch_received offers cause swept
      by_batch v n f b h = ⊎_elim taking (λ z. by_server_law _ h (uncounted (taken w.tables x.place)) (rw z)) (true_or_false (stands (request_at w.requests m.client) n))
        where
          taking : stands (request_at w.requests m.client) n ≡ true → Left
          taking z = ⊎_elim own (λ p. stays (left ∙ swept_other s w.copies m.client sound.shape.copies hm (sweep.Forget b) d o p ho)) (same? d m.client)
            where
              left : copy_at s (stepped s w x).copies d o ≡ copy_at s (swept_all s (sweep.Forget b) (m.client * s.objects) w.copies) d o
              left = after (Batch v n f b) h (record { copy = copy.Keep; request = request.End; sweep = sweep.Forget b }) (rw z) ∙ rw (set-get_or w.copies)

              here : d ≡ m.client → copy_at s (stepped s w x).copies d o ≡ cond (bit_at b o) no_copy c
              here p = left ∙ rw p (swept_own s w.copies m.client sound.shape.copies hm (sweep.Forget b) o ho)

              own : d ≡ m.client → Left
              own p =
                  ⊎_elim (λ k. batched (rw (a, e, p, h, eq-eqb m.client m.client refl, z) (both_true k refl)) (rw (e, h)) (rw k at here p)) (λ k. stays (rw k at here p))
                  (true_or_false (bit_at b o))

    by_message : x.kind ≡ 5 → Left
    unfolding received
    by_message e = go m.kind refl
      where
        go : (k : Kind) → m.kind ≡ k → Left
        go (Renew i n f ver) h = by_server_law e _ h _ refl
        go (Grant i n p f ver q y) h = by_grant e i n p f ver q y h
        go (Invalidate i f ver) h = by_invalidate e i f ver h
        go (Ack i f ver) h = by_server_law e _ h _ refl
        go (Offer v n f) h = by_offer e v n f h
        go (Dropped v n f) h = by_server_law e _ h _ refl
        go (Batch v n f b) h = by_batch e v n f b h
        go (Cleared v n f b) h = by_server_law e _ h _ refl

    by_accepted : Left
    by_accepted =
        by_kind Left x facts.passes.knows
        (λ e. untouched _ _ _ (clock_performed s w.tables (copy_of s w x) (request_of s w x) x e))
        by_read by_ask
        (λ e. untouched _ _ _ (write_performed s w.tables (copy_of s w x) (request_of s w x) x e))
        by_message
        (λ e. untouched _ _ _ (lose_performed s w.tables (copy_of s w x) (request_of s w x) x e))
        (λ e. untouched _ _ _ (double_performed s w.tables (copy_of s w x) (request_of s w x) x e))
        (λ e. untouched _ _ _ (server_performed s w.tables (copy_of s w x) (request_of s w x) x e))
        by_restart

  pub fate : Left
  fate = ⊎_elim by_accepted (λ a. stays (ap (λ (v : World). copy_at s v.copies d o) (refused_keeps s w x a))) (true_or_false (accepts s w x))

  -- a GRANT fills it with a copy
  pub fills : Worth (delivered_by w x).kind → grants s w x d o ≡ true → 1 ≤ (copy_at s (stepped s w x).copies d o).version
  unfolding grants
  fills worth g = go (delivered_by w x).kind refl
    where
      parts : (delivers_to s w x d ≡ true) × (is_grant (request_at w.requests d) o (delivered_by w x).kind ≡ true)
      parts = and-true _ _ g

      told : (accepts s w x ≡ true) × ((is_deliver x && eqb (delivered_by w x).client d) ≡ true)
      told = and-true _ _ parts.0

      to : (is_deliver x ≡ true) × (eqb (delivered_by w x).client d ≡ true)
      to = and-true _ _ told.1

      here : d ≡ (delivered_by w x).client
      here = sym (eqb-true (delivered_by w x).client d to.1)

      granting : is_grant (request_at w.requests (delivered_by w x).client) o (delivered_by w x).kind ≡ true
      granting = rw here at parts.1

      go : (k : Kind) → (delivered_by w x).kind ≡ k → 1 ≤ (copy_at s (stepped s w x).copies d o).version
      go (Renew i n f ver) h = not_both (rw h at granting) refl
      go (Grant i n p f ver q y) h = rw (grant_fills told.0 (eqb-true x.kind 5 to.0) i n p f ver q y h granting here) (rw h at worth)
      go (Invalidate i f ver) h = not_both (rw h at granting) refl
      go (Ack i f ver) h = not_both (rw h at granting) refl
      go (Offer v n f) h = not_both (rw h at granting) refl
      go (Dropped v n f) h = not_both (rw h at granting) refl
      go (Batch v n f b) h = not_both (rw h at granting) refl
      go (Cleared v n f b) h = not_both (rw h at granting) refl
