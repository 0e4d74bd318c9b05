-- From each phase to the next: what a step of the policy makes of the state, by the rules alone.
use Rattle.std.specs.Prelude.{ℕ, ◌+◌, ◌*◌, ◌<◌, Bool, ◌&&◌, ◌||◌, ◌≡◌, eqb, ltb}
use Rattle.std.proofs.Common.{arith, ⊎_elim, sym, ◌∙◌, ltb-true, eqb-true, eq-eqb, ne_eqb}
use Rattle.std.proofs.Math.Bool.{true, false, not}
use Rattle.std.proofs.Math.Path.{refl, ap}
use Rattle.std.proofs.Math.Seq.{set-get_or, get_or-set_same}
use Rattle.std.proofs.lemmas.Bool.{lt-leb}
use Rattle.laws.specs.Choice.{true_or_false, not_both, and-true, both_true}
use Rattle.laws.specs.Lists.{all_at}
use Rattle.laws.specs.Loop.{first_found, fold_keeps_in}
use Rattle.protocol.specs.declared.message.Kind.TheVariants.{Renew, Grant, Offer, Dropped}
use Rattle.protocol.specs.declared.records.Request.{Request}
use Rattle.protocol.specs.declared.setup.Setup.{Setup}
use Rattle.protocol.specs.declared.tables.Tables.{Tables}
use Rattle.protocol.specs.Setup.{volume_of}
use Rattle.protocol.specs.Tables.{by_volume, epoch_at, seen_at, unreachable_at, notes_at, version_at, standing_at, view_epoch_at, no_copy, no_request}
use Rattle.protocol.specs.Writes.{Counted, ready, complete_if, settled}
use Rattle.protocol.specs.Server.{noted, offered, waited_in, lowest_waited, volume_renewed, object_renewed, payload_for, granted, must_drop, has_notes, renewed_by, renewed, drop_taken, dropped, ready_in, drop_staged}
use Rattle.protocol.specs.Client.{showable, stands}
use Rattle.protocol.specs.Decide.{taken, uncounted, grant_received, offer_received, received}
use Rattle.protocol.specs.World.{World}
use Rattle.protocol.specs.Ranges.{Ranges}
use Rattle.protocol.specs.Soundness.Bounds.{Started}
use Rattle.protocol.specs.Soundness.Question.{SoundWorld}
use Rattle.protocol.proofs.Bookkeeping.Settled.{ready_stands}
use Rattle.protocol.specs.Safety.View.{copy_at, request_at}
use Rattle.protocol.specs.Safety.Replaced.{with_tables}
use Rattle.protocol.proofs.Safety.Stores.{client_fits, volume_fits_law, object_fits, row_below}
use Rattle.protocol.proofs.Safety.Tools.{granted_alive}
use Rattle.protocol.proofs.Safety.Sweeping.{swept_keep}
use Rattle.promises.specs.UntilShown.Policy.{NoneStands, connected}
use Rattle.promises.specs.UntilShown.Steps.{asking, delivering}
use Rattle.promises.specs.UntilShown.Phases.{standing, Idle, Asked, Offered, Dropping, Reconnected, Granted, Showing}
use Rattle.promises.proofs.UntilShown.Phases.{only_sent, none_left, only_answer}

-- ---- laws of the rules

-- the server makes a client drop its leases exactly where it is not connected
must_drop_law : (t : Tables) (d v : ℕ) → must_drop t d v (view_epoch_at t d v) ≡ not (connected t d v)
unfolding must_drop
must_drop_law t d v = either (unreachable_at t d v) (eqb (view_epoch_at t d v) (epoch_at t v))
  where
    either : (un same : Bool) → (not same || un) ≡ not (not un && same)
    either true true = refl
    either true false = refl
    either false true = refl
    either false false = refl

-- where no write stands in the object's volume, nobody is waited for there ..
none_waited : (s : Setup) (t : Tables) (d o : ℕ) → NoneStands s t o → ltb (lowest_waited s t d (volume_of s o)) s.objects ≡ false
unfolding lowest_waited
none_waited s t d o h = ⊎_elim (λ e. found (ltb-true _ _ e)) (λ e. e) (true_or_false (ltb (lowest_waited s t d (volume_of s o)) s.objects))
  where
    found : lowest_waited s t d (volume_of s o) < s.objects → ltb (lowest_waited s t d (volume_of s o)) s.objects ≡ false
    found l =
        let k = lowest_waited s t d (volume_of s o) in
        let a = and-true (eqb (volume_of s k) (volume_of s o)) _ (first_found (waited_in s t d (volume_of s o)) 0 s.objects (omega arith)) in
        not_both (and-true (standing_at t k) _ a.1).0 (h k l (eqb-true _ _ a.0))

-- .. and no write completes
none_ready : (s : Setup) (t : Tables) (o : ℕ) → NoneStands s t o → (k : ℕ) → k < s.objects → ready_in s (volume_of s o) t k ≡ false
none_ready s t o h k l = ⊎_elim stands (λ e. e) (true_or_false (ready_in s (volume_of s o) t k))
  where
    stands : ready_in s (volume_of s o) t k ≡ true → ready_in s (volume_of s o) t k ≡ false
    stands e =
        let a = and-true (eqb (volume_of s k) (volume_of s o)) (ready s t k) e in
        not_both (ready_stands s t k a.1) (h k l (eqb-true _ _ a.0))

none_completes : (s : Setup) (t : Tables) (o : ℕ) → NoneStands s t o
    → settled s (record { tables = t; test = ready_in s (volume_of s o); from = 0; many = s.objects }) ≡ uncounted t
unfolding settled
none_completes s t o h =
    fold_keeps_in (λ (c : Counted). c ≡ uncounted t) (complete_if (ready_in s (volume_of s o)) s) s.objects (λ c k l e. rw (e, none_ready s t o h k l)) (uncounted t) 0 s.objects
    (omega arith) refl

-- ---- the moves
module _ (s : Setup) (range : Ranges s) (w : World) (k : SoundWorld s w) (d o : ℕ) (hd : d < s.clients) (ho : o < s.objects) where
  abbrev v : ℕ
  v = volume_of s o

  -- the client's place in each table
  hv : v < s.volumes
  hv = range.within o ho

  in_sessions : by_volume d v < 128
  in_sessions = let a = client_fits range hd in let b = volume_fits_law range hv in omega arith

  pub asks : (known : Bool) → Idle s w d o known → Asked s (asking s w d o) d o (request_at w.requests d).next known
  asks known a = record {
    renew = only_sent w.tables.queue _ a.empty k.shape.tables.queue.items;
    vacant = a.vacant;
    unnoted = a.unnoted;
    unseen = a.unseen;
    request = get_or-set_same w.requests d _ no_request (omega (arith, k.shape.requests));
    connects = a.connects;
  }

  -- a RENEW leaves the client's records
  renew_leaves : (n e ver : ℕ) → delivering s w d (Renew o n e ver) ≡ with_tables w (renewed s (taken w.tables 0) d o n e ver)
  unfolding received
  renew_leaves n e ver = rw (set-get_or w.copies, set-get_or w.requests, swept_keep s)

  module _ (n : ℕ) where
    abbrev noticed : Tables
    noticed = noted (taken w.tables 0) d n

    abbrev held : ℕ
    held = (copy_at s w.copies d o).version

    abbrev known_epoch : ℕ
    known_epoch = view_epoch_at w.tables d v

    -- a new number is noted
    is_new : seen_at w.tables d < n → (e ver : ℕ) → renewed s (taken w.tables 0) d o n e ver ≡ renewed_by s noticed d o n e ver
    unfolding renewed
    is_new h e ver = rw (lt-leb _ _ h)

    -- it makes a client drop its leases, or grants it one
    drops : (known : Bool) → connected w.tables d v ≡ known → must_drop noticed d v known_epoch ≡ not known
    unfolding noted
    drops known e = must_drop_law noticed d v ∙ ap not e

    unwaited : NoneStands s w.tables o → ltb (lowest_waited s noticed d v) s.objects ≡ false
    unfolding noted
    unwaited h = none_waited s noticed d o h

    no_notes : notes_at w.tables d v ≡ 0 → has_notes noticed d v ≡ false
    unfolding noted
    no_notes e = rw e

    unwritten : NoneStands s w.tables o → standing_at noticed o ≡ false
    unfolding noted
    unwritten h = h o ho refl

    pub grants : Asked s w d o n true → Granted s (delivering s w d (Renew o n known_epoch held)) d o n
    unfolding renewed_by granted object_renewed volume_renewed noted
    grants a =
        rw (renew_leaves n known_epoch held, is_new a.unseen known_epoch held, drops true a.connects, no_notes a.unnoted, unwaited a.vacant, unwritten a.vacant)
        (record {
          epoch = epoch_at w.tables v;
          version = version_at w.tables o;
          payload = payload_for w.tables o held;
          grant = only_answer w.tables.queue _ a.renew.one k.shape.tables.queue.items;
          positive = all_at Started w.tables.objects.version o 0 (omega (arith, object_fits range ho, k.shape.tables.objects.version)) k.bounds.tables.objects.version;
          request = a.request;
        })

    pub offers : Asked s w d o n false → Offered s (delivering s w d (Renew o n known_epoch held)) d o n
    unfolding renewed_by offered noted
    offers a =
        rw (renew_leaves n known_epoch held, is_new a.unseen known_epoch held, drops false a.connects)
        (record {
          offer = only_answer w.tables.queue _ a.renew.one k.shape.tables.queue.items;
          vacant = a.vacant;
          -- a mark drops the notes
          unnoted = get_or-set_same w.tables.sessions.notes (by_volume d v) 0 0 (omega (arith, in_sessions, k.shape.tables.sessions.notes));
          positive = omega (arith, a.unseen);
          seen = get_or-set_same w.tables.sessions.seen d n 0 (omega (arith, client_fits range hd, k.shape.tables.sessions.seen));
          awaits = get_or-set_same w.tables.sessions.offer (by_volume d v) n 0 (omega (arith, in_sessions, k.shape.tables.sessions.offer));
          request = a.request;
        })

    -- the standing number is the message's
    stands_there : request_at w.requests d ≡ standing n o → stands (request_at w.requests d) n ≡ true
    unfolding stands
    stands_there e = rw e (eq-eqb n n refl)

    pub drops_leases : Offered s w d o n → Dropping s (delivering s w d (Offer v n (epoch_at w.tables v))) d o n
    unfolding received offer_received
    drops_leases a =
        rw (stands_there a.request)
        (record {
          dropped = only_answer w.tables.queue _ a.offer.one k.shape.tables.queue.items;
          vacant = a.vacant;
          unnoted = a.unnoted;
          positive = a.positive;
          seen = a.seen;
          awaits = a.awaits;
          knows = get_or-set_same w.tables.views.epoch (by_volume d v) _ 0 (omega (arith, in_sessions, k.shape.tables.views.epoch));
          next = ap (λ (r : Request). r.next) (get_or-set_same w.requests d _ no_request (omega (arith, k.shape.requests))) ∙ ap (λ (r : Request). r.next) a.request;
        })

    answers_offer : Dropping s w d o n → drop_taken (taken w.tables 0) d v n (epoch_at w.tables v) ≡ true
    unfolding drop_taken
    answers_offer a =
        both_true (eq-eqb (epoch_at w.tables v) _ refl)
        (both_true (ap not (ne_eqb n 0 (λ e. omega (arith, a.positive)))) (eq-eqb n _ (sym a.awaits)))

    -- DROPPED taken: no write of the volume stands, so none completes
    dropped_leaves : Dropping s w d o n
        → delivering s w d (Dropped v n (epoch_at w.tables v)) ≡ with_tables w (dropped s (taken w.tables 0) d v)
    unfolding received drop_staged dropped
    dropped_leaves a =
        rw (answers_offer a, none_completes s (dropped s (taken w.tables 0) d v) o a.vacant, set-get_or w.copies, set-get_or w.requests, swept_keep s)

    pub reconnects : Dropping s w d o n → Reconnected s (delivering s w d (Dropped v n (epoch_at w.tables v))) d o n
    unfolding dropped
    reconnects a =
        rw (dropped_leaves a)
        (record {
          idle = record {
            empty = none_left w.tables.queue a.dropped.one;
            vacant = a.vacant;
            unnoted = a.unnoted;
            unseen = omega (arith, a.seen, a.next);
            connects = both_true
                (ap not (get_or-set_same w.tables.sessions.unreachable (by_volume d v) false false (omega (arith, in_sessions, k.shape.tables.sessions.unreachable))))
                (eq-eqb _ (epoch_at w.tables v) a.knows);
          };
          next = a.next;
        })

    -- GRANT taken: both leases are alive
    pub shows : (g : Granted s w d o n)
        → Showing s (delivering s w d (Grant o n (w.tables.clock + s.tv) g.epoch g.version (w.tables.clock + s.t) g.payload)) d o
    unfolding received grant_received showable
    shows g =
        let c = row_below s.objects d s.clients o hd ho in
        rw (stands_there g.request, swept_keep s)
        (record {
          empty = none_left w.tables.queue g.grant.one;
          shows = rw (
            get_or-set_same w.copies (d * s.objects + o) _ no_copy (omega (arith, k.shape.copies)),
            get_or-set_same w.tables.views.expiry (by_volume d v) _ 0 (omega (arith, in_sessions, k.shape.tables.views.expiry)),
          )
              (both_true (ap not (ne_eqb g.version 0 (λ e. omega (arith, g.positive))))
              (both_true (granted_alive w.tables.clock d range.tv.0) (granted_alive w.tables.clock d range.t.0)));
        })
