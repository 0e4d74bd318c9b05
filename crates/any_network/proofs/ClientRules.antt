-- A client's rules, in a net and in a fleet that represents it: ask, GRANT, INVALIDATE, OFFER, BATCH, restart. Each leaves a net and a fleet that represents it.
-- Letters: those of Represents; d is the client, k another, q a request, z a copy, g a sweep, a the set of a BATCH, l a list.
use Rattle.std.specs.Prelude.{ℕ, zero, suc, ◌+◌, ◌*◌, ◌<◌, true, ◌≡◌, get_or, set, length}
use Rattle.std.proofs.Common.{arith, ⊎_elim, ◌∙◌, get_or-set_same, get_or-set_other}
use mathlib.Core.List.{List, [], ◌∷◌}
use Rattle.std.proofs.Math.Path.{refl, sym, ap}
use Rattle.std.proofs.Math.ListN.{length-set, length-replicate}
use Rattle.laws.specs.Each.{replicate_at}
use Rattle.laws.specs.Store.{store_each, always, store_hit, store_other}
use Rattle.protocol.specs.declared.message.Kind.TheVariants.{Renew, Ack, Dropped, Cleared}
use Rattle.protocol.specs.declared.records.Copy.{Copy}
use Rattle.protocol.specs.declared.records.Request.{Request}
use Rattle.protocol.specs.declared.setup.Setup.{Setup}
use Rattle.protocol.specs.declared.step.Sweep.{Sweep}
use Rattle.protocol.specs.declared.step.Sweep.TheVariants as sweep
use Rattle.protocol.specs.declared.tables.Tables.{Tables}
use Rattle.protocol.specs.Setup.{in_range, volume_of}
use Rattle.protocol.specs.Ranges.{Ranges}
use Rattle.protocol.proofs.Ranges.{ranges}
use Rattle.protocol.specs.Messages.{message, pushed, empty_queue}
use Rattle.protocol.specs.Tables.{with_queue, with_views, by_volume, view_epoch_at, view_expiry_at, no_copy, no_request}
use Rattle.protocol.specs.Server.{sent}
use Rattle.protocol.specs.Client.{numbered, ended, turned, viewed, forgotten, swept, swept_all, client_restarted}
use Rattle.protocol.specs.World.{World}
use Rattle.protocol.specs.Soundness.Shape.{WorldShape}
use Rattle.protocol.specs.Safety.View.{copy_at, request_at}
use Rattle.protocol.specs.Safety.Stores.{After}
use Rattle.protocol.proofs.Safety.Stores.{off_place, volume_fits_law, volume_set, copy_set}
use Rattle.protocol.proofs.Safety.Sweeping.{swept_own, swept_other}
use Rattle.protocol.proofs.Safety.Requests.{has_record}
use Rattle.any_network.specs.Network.{Net, listing, after}
use Rattle.any_network.specs.Halves.{ClientHalf, copy_in, swept_from, client_ask, client_restart, client_granted, client_invalidated, client_offered, client_forgets, quietly}
use Rattle.any_network.specs.Fleet.{Fleet, by_client}
use Rattle.any_network.specs.Represents.{IsClient, ClientShape, Represents}
use Rattle.any_network.proofs.ClientMoves.{client_moves}

-- a row after a store into a table of all clients is the row after a store into the client's own list
after_stored : {A : Type 0} (l : List A) (y : A) {d v u : ℕ} {got new old : A} → v < length l → After d v d u got new old → old ≡ get_or l u y → got ≡ get_or (set l v new) u y
after_stored l y {d} {v} {u} {got} {new} h a e =
    ⊎_elim (λ b. b.2 ∙ sym (rw b.1 (get_or-set_same l v new y h))) (λ b. b.1 ∙ e ∙ sym (get_or-set_other l v u new y (b.0 refl))) a

-- a sweep over one client's own list
swept_at : (s : Setup) (g : Sweep) (l : List Copy) (j k : ℕ) → k < length l → get_or (swept_from s g l j) k no_copy ≡ swept s g (get_or l k no_copy) (j + k)
unfolding swept_from
swept_at s g [] j k h = absurd (omega arith)
swept_at s g (z ∷ l) j zero h = ap (swept s g z) (omega arith)
swept_at s g (z ∷ l) j (suc k) h = swept_at s g l (suc j) k (omega arith) ∙ ap (swept s g (get_or l k no_copy)) (omega arith)

swept_length : (s : Setup) (g : Sweep) (l : List Copy) (j : ℕ) → length (swept_from s g l j) ≡ length l
unfolding swept_from
swept_length s g [] j = refl
swept_length s g (z ∷ l) j = ap suc (swept_length s g l (suc j))

module _ (s : Setup) (i : in_range s ≡ true) (n : Net) (f : Fleet) (r : Represents s n f) (shape : WorldShape s (listing n.world empty_queue)) (d : ℕ) (hd : d < s.clients) where
  abbrev w : World
  w = n.world

  abbrev t : Tables
  t = with_queue w.tables empty_queue

  abbrev c : ClientHalf
  c = f.clients d

  abbrev request : Request
  request = request_at w.requests d

  range : Ranges s
  range = ranges s i

  mine : IsClient s w d c
  mine = r.clients d hd

  lists : ClientShape s c
  lists = mine.shape

  here : d < length w.requests
  here = has_record {s = s} {w = listing w empty_queue} shape hd

  asks_for_law : request ≡ c.request
  asks_for_law = mine.request

  -- the request replaced
  own_request : (q : Request) → request_at (set w.requests d q) d ≡ q
  own_request q = get_or-set_same w.requests d q no_request here

  other_request : (q : Request) (k : ℕ) → (k ≡ d → ⊥) → request_at (set w.requests d q) k ≡ request_at w.requests k
  other_request q k ne = get_or-set_other w.requests d k q no_request ne

  ends : request_at (set w.requests d (ended request)) d ≡ ended c.request
  ends = own_request (ended request) ∙ ap ended asks_for_law

  -- a store into what it knows, and into its copies
  at_epoch : {v : ℕ} (e : ℕ) → v < s.volumes → (k u : ℕ) → u < s.volumes
      → After d v k u (get_or (set w.tables.views.epoch (by_volume d v) e) (by_volume k u) 0) e (view_epoch_at t k u)
  at_epoch e hv k u hu = volume_set range hd hv w.tables.views.epoch e 0 shape.tables.views.epoch k u hu

  at_expiry : {v : ℕ} (x : ℕ) → v < s.volumes → (k u : ℕ) → u < s.volumes
      → After d v k u (get_or (set w.tables.views.expiry (by_volume d v) x) (by_volume k u) 0) x (view_expiry_at t k u)
  at_expiry x hv k u hu = volume_set range hd hv w.tables.views.expiry x 0 shape.tables.views.expiry k u hu

  at_copy : {o : ℕ} (z : Copy) → o < s.objects → (k j : ℕ) → j < s.objects → After d o k j (copy_at s (set w.copies (d * s.objects + o) z) k j) z (copy_at s w.copies k j)
  at_copy z ho k j hj = copy_set s hd ho w.copies z shape.copies k j hj

  volume_held : {v : ℕ} → v < s.volumes → (l : List ℕ) → length l ≡ 8 → v < length l
  volume_held h l e = let a = volume_fits_law range h in omega arith

  object_held : {o : ℕ} → o < s.objects → o < length c.copies
  object_held h = omega (arith, lists.copies)

  own_swept : (g : Sweep) (j : ℕ) → j < s.objects → copy_at s (swept_all s g (d * s.objects) w.copies) d j ≡ get_or (swept_from s g c.copies 0) j no_copy
  own_swept g j h =
      swept_own s w.copies d shape.copies hd g j h
      ∙ ap (λ (z : Copy). swept s g z j) (mine.copy j h)
      ∙ sym (swept_at s g c.copies 0 j (object_held h) ∙ ap (swept s g (copy_in c j)) (omega arith))

  -- ask
  abbrev asked : ℕ → World
  asked o = record { tables = sent t (message d (Renew o request.next (view_epoch_at t d (volume_of s o)) (copy_at s w.copies d o).version)); copies = w.copies; requests = set w.requests d (numbered request o) }

  pub ask_moves : (o : ℕ) → o < s.objects → Represents s
      (after n (asked o))
      (by_client f d (client_ask s c d o))
  unfolding pushed
  ask_moves o ho =
      client_moves s n f r d (asked o) (client_ask s c d o) refl (rw (asks_for_law, mine.epoch (volume_of s o) (range.within o ho), mine.copy o ho))
      (record {
        clock = mine.clock;
        epoch = mine.epoch;
        expiry = mine.expiry;
        copy = mine.copy;
        request = own_request (numbered request o) ∙ ap (λ (q : Request). numbered q o) asks_for_law;
        shape = record { epoch = lists.epoch; expiry = lists.expiry; copies = lists.copies };
      })
      (record { epoch = λ k v h ne. refl; expiry = λ k v h ne. refl; copy = λ k j h ne. refl; request = other_request (numbered request o) })

  -- GRANT taken
  abbrev granted : ℕ → ℕ → ℕ → Copy → World
  granted o x e z = record { tables = with_views t (viewed t.views d (volume_of s o) e x); copies = set w.copies (d * s.objects + o) z; requests = set w.requests d (ended request) }

  pub grant_moves : (o x e : ℕ) (z z' : Copy) → o < s.objects → z ≡ z' → Represents s
      (after n (granted o x e z))
      (by_client f d (quietly (client_granted s c o x e z')))
  grant_moves o x e z z' ho q =
      let hv = range.within o ho in
      client_moves s n f r d (granted o x e z) (quietly (client_granted s c o x e z')) refl refl
      (record {
        clock = mine.clock;
        epoch = λ u h. after_stored c.epoch 0 (volume_held hv c.epoch lists.epoch) (at_epoch e hv d u h) (mine.epoch u h);
        expiry = λ u h. after_stored c.expiry 0 (volume_held hv c.expiry lists.expiry) (at_expiry x hv d u h) (mine.expiry u h);
        copy = λ j h. rw (← q) (after_stored c.copies no_copy (object_held ho) (at_copy z ho d j h) (mine.copy j h));
        request = ends;
        shape = record { epoch = length-set c.epoch (volume_of s o) e ∙ lists.epoch; expiry = length-set c.expiry (volume_of s o) x ∙ lists.expiry; copies = length-set c.copies o z' ∙ lists.copies };
      })
      (record {
        epoch = λ k u h ne. off_place (at_epoch e hv k u h) (λ a b. ne a);
        expiry = λ k u h ne. off_place (at_expiry x hv k u h) (λ a b. ne a);
        copy = λ k j h ne. off_place (at_copy z ho k j h) (λ a b. ne a);
        request = other_request (ended request);
      })

  -- INVALIDATE
  abbrev invalidated : ℕ → ℕ → ℕ → World
  invalidated o e v = record { tables = sent t (message d (Ack o e v)); copies = set w.copies (d * s.objects + o) no_copy; requests = set w.requests d (turned request (forgotten request o)) }

  pub invalidate_moves : (o e v : ℕ) → o < s.objects → Represents s
      (after n (invalidated o e v))
      (by_client f d (record { half = client_invalidated c o; out = message d (Ack o e v) ∷ [] }))
  unfolding pushed
  invalidate_moves o e v ho =
      client_moves s n f r d (invalidated o e v) (record { half = client_invalidated c o; out = message d (Ack o e v) ∷ [] }) refl refl
      (record {
        clock = mine.clock;
        epoch = mine.epoch;
        expiry = mine.expiry;
        copy = λ j h. after_stored c.copies no_copy (object_held ho) (at_copy no_copy ho d j h) (mine.copy j h);
        request = own_request (turned request (forgotten request o)) ∙ ap (λ (q : Request). turned q (forgotten q o)) asks_for_law;
        shape = record { epoch = lists.epoch; expiry = lists.expiry; copies = length-set c.copies o no_copy ∙ lists.copies };
      })
      (record {
        epoch = λ k u h ne. refl;
        expiry = λ k u h ne. refl;
        copy = λ k j h ne. off_place (at_copy no_copy ho k j h) (λ a b. ne a);
        request = other_request (turned request (forgotten request o));
      })

  -- OFFER taken
  abbrev offered : ℕ → ℕ → ℕ → World
  offered v m e = record { tables = sent (with_views t (viewed t.views d v e 0)) (message d (Dropped v m e)); copies = swept_all s (sweep.Expire v) (d * s.objects) w.copies; requests = set w.requests d (ended request) }

  pub offer_moves : (v m e : ℕ) → v < s.volumes → Represents s
      (after n (offered v m e))
      (by_client f d (record { half = client_offered s c v e; out = message d (Dropped v m e) ∷ [] }))
  unfolding pushed
  offer_moves v m e hv =
      client_moves s n f r d (offered v m e) (record { half = client_offered s c v e; out = message d (Dropped v m e) ∷ [] }) refl refl
      (record {
        clock = mine.clock;
        epoch = λ u h. after_stored c.epoch 0 (volume_held hv c.epoch lists.epoch) (at_epoch e hv d u h) (mine.epoch u h);
        expiry = λ u h. after_stored c.expiry 0 (volume_held hv c.expiry lists.expiry) (at_expiry 0 hv d u h) (mine.expiry u h);
        copy = own_swept (sweep.Expire v);
        request = ends;
        shape = record { epoch = length-set c.epoch v e ∙ lists.epoch; expiry = length-set c.expiry v 0 ∙ lists.expiry; copies = swept_length s (sweep.Expire v) c.copies 0 ∙ lists.copies };
      })
      (record {
        epoch = λ k u h ne. off_place (at_epoch e hv k u h) (λ a b. ne a);
        expiry = λ k u h ne. off_place (at_expiry 0 hv k u h) (λ a b. ne a);
        copy = λ k j h ne. swept_other s w.copies d shape.copies hd (sweep.Expire v) k j ne h;
        request = other_request (ended request);
      })

  -- BATCH taken
  abbrev batched : ℕ → ℕ → ℕ → ℕ → World
  batched v m e a = record { tables = sent t (message d (Cleared v m e a)); copies = swept_all s (sweep.Forget a) (d * s.objects) w.copies; requests = set w.requests d (ended request) }

  pub batch_moves : (v m e a : ℕ) → Represents s
      (after n (batched v m e a))
      (by_client f d (record { half = client_forgets s c a; out = message d (Cleared v m e a) ∷ [] }))
  unfolding pushed
  batch_moves v m e a =
      client_moves s n f r d (batched v m e a) (record { half = client_forgets s c a; out = message d (Cleared v m e a) ∷ [] }) refl refl
      (record {
        clock = mine.clock;
        epoch = mine.epoch;
        expiry = mine.expiry;
        copy = own_swept (sweep.Forget a);
        request = ends;
        shape = record { epoch = lists.epoch; expiry = lists.expiry; copies = swept_length s (sweep.Forget a) c.copies 0 ∙ lists.copies };
      })
      (record {
        epoch = λ k u h ne. refl;
        expiry = λ k u h ne. refl;
        copy = λ k j h ne. swept_other s w.copies d shape.copies hd (sweep.Forget a) k j ne h;
        request = other_request (ended request);
      })

  -- restart
  zero_own : (l : List ℕ) → length l ≡ 128 → (u : ℕ) → u < s.volumes → get_or (store_each always (by_volume d) (λ (v : ℕ). 0) l s.volumes) (by_volume d u) 0 ≡ 0
  zero_own l q u h =
      let a = volume_fits_law range h in
      let b = range.clients.1 in
      store_hit always (by_volume d) (λ (v : ℕ). 0) (λ x y e. omega arith) l s.volumes u 0 h refl (omega arith)

  zero_other : (l : List ℕ) (k u : ℕ) → (k ≡ d → ⊥) → u < s.volumes → get_or (store_each always (by_volume d) (λ (v : ℕ). 0) l s.volumes) (by_volume k u) 0 ≡ get_or l (by_volume k u) 0
  zero_other l k u ne h =
      let a = volume_fits_law range h in
      store_other always (by_volume d) (λ (v : ℕ). 0) l s.volumes (by_volume k u) 0 (λ x y z e. let b = volume_fits_law range y in ne (omega arith))

  abbrev restarted : World
  restarted = record { tables = with_views t (client_restarted s t.views d); copies = swept_all s sweep.Erase (d * s.objects) w.copies; requests = set w.requests d (ended request) }

  pub restart_moves : Represents s
      (after n restarted)
      (by_client f d (quietly (client_restart s c)))
  unfolding client_restarted swept
  restart_moves =
      client_moves s n f r d restarted (quietly (client_restart s c)) refl refl
      (record {
        clock = mine.clock;
        epoch = λ u h. zero_own w.tables.views.epoch shape.tables.views.epoch u h ∙ sym (replicate_at 8 u 0);
        expiry = λ u h. zero_own w.tables.views.expiry shape.tables.views.expiry u h ∙ sym (replicate_at 8 u 0);
        copy = λ j h. swept_own s w.copies d shape.copies hd sweep.Erase j h ∙ sym (replicate_at s.objects j no_copy);
        request = ends;
        shape = record { epoch = refl; expiry = refl; copies = length-replicate _ _ };
      })
      (record {
        epoch = λ k u h ne. zero_other w.tables.views.epoch k u ne h;
        expiry = λ k u h ne. zero_other w.tables.views.expiry k u ne h;
        copy = λ k j h ne. swept_other s w.copies d shape.copies hd sweep.Erase k j ne h;
        request = other_request (ended request);
      })
