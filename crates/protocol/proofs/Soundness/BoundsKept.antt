-- Every step keeps the bounds of question 1.
use Rattle.std.specs.Prelude.{ℕ, ◌<◌, Bool, true, List, ◌≡◌, eqb}
use Rattle.std.proofs.Common.{arith, ⊎_elim, lt-ltb}
use Rattle.laws.specs.Choice.{cond_keeps, true_or_false, both_true}
use Rattle.laws.specs.Loop.{fold_keeps}
use Rattle.laws.specs.Sets.{bit_at}
use Rattle.laws.specs.Lists.{All, all_at}
use Rattle.laws.specs.Each.{each_set, each_set_in, each_get_d}
use Rattle.protocol.specs.declared.records.Copy.{Copy}
use Rattle.protocol.specs.declared.records.Request.{Request}
use Rattle.protocol.specs.declared.setup.Setup.{Setup}
use Rattle.protocol.specs.declared.step.Decision.{Decision}
use Rattle.protocol.specs.declared.step.Step.{Step}
use Rattle.protocol.specs.declared.step.Sweep.{Sweep}
use Rattle.protocol.specs.declared.step.Sweep.TheVariants.{Keep, Expire, Forget, Erase}
use Rattle.protocol.specs.declared.tables.Tables.{Tables}
use Rattle.protocol.specs.Setup.{volume_of}
use Rattle.protocol.specs.Ranges.{Ranges}
use Rattle.protocol.proofs.Ranges.{ranges}
use Rattle.protocol.specs.Messages.{message_at}
use Rattle.protocol.specs.Tables.{no_copy, no_request}
use Rattle.protocol.specs.Client.{showable, swept, sweep_at, swept_all}
use Rattle.protocol.proofs.SoundLaws.{named}
use Rattle.protocol.specs.Decide.{performed, read_decided, ask_decided, deliver_decided, restart_decided}
use Rattle.protocol.specs.World.{World, stepped}
use Rattle.protocol.specs.Ledger.{accepts}
use Rattle.protocol.specs.Soundness.StepCases.{Accepted, copy_of, request_of}
use Rattle.protocol.proofs.Soundness.StepCases.{accepted, setup_in_range, tables_after, copies_after_law, requests_after_law, refused_keeps, by_kind, client_exists, object_exists, clock_grows, version_grows, clock_performed, read_performed, ask_performed, write_performed, deliver_performed, lose_performed, double_performed, server_performed, client_performed}
use Rattle.protocol.specs.Soundness.Bounds.{Bounded, CopyBounded, RequestBounded, WorldBounded}
use Rattle.protocol.proofs.Soundness.Bounds.{views_bounded, sent_bounded, taken_bounded, named_at}
use Rattle.protocol.proofs.Soundness.Written.{written_bounded, clock_set_bounded, settled_bounded}
use Rattle.protocol.specs.Soundness.Received.{Leaves}
use Rattle.protocol.proofs.Soundness.Received.{unchanged, received_bounded, server_bounded, client_bounded, ended_bounded}

abbrev Decided : Setup → Copy → Request → Decision → Type 0
Decided s c r g = Leaves s c r g.outcome.tables g.change

module _ (s : Setup) (rs : Ranges s) (t : Tables) (c : Copy) (r : Request) (h : Bounded s t) where
  read_bounded : (d o : ℕ) → Decided s c r (read_decided s t c d o)
  unfolding read_decided
  read_bounded d o = cond_keeps (Decided s c r) (showable s t c d o) (λ _. unchanged h) (λ _. unchanged h)

  ask_bounded : (d o : ℕ) → d < s.clients → o < s.objects → Decided s c r (ask_decided s t c r d o)
  unfolding ask_decided
  ask_bounded d o p q = record {
    tables = sent_bounded t _ (both_true (lt-ltb d s.clients p) (lt-ltb o s.objects q)) h;
    copy = λ b. b;
    request = λ b. record { next = omega arith; object = λ e. q };
  }

  deliver_bounded : (i : ℕ) → Decided s c r (deliver_decided s t c r i)
  unfolding deliver_decided
  deliver_bounded i =
      let m = message_at t.queue i in
      let a = named s m (named_at s rs t i h) in
      received_bounded s rs _ c r m.client a.0 (taken_bounded s rs t i h) m.kind a.1

  restart_bounded : (d : ℕ) → Decided s c r (restart_decided s t d)
  unfolding restart_decided
  restart_bounded d = record {
    tables = views_bounded (client_bounded s t.views d h.views) h;
    copy = λ b. b;
    request = ended_bounded r;
  }

  performed_bounded : (b : Bool) (x : Step) → Accepted s t b r x → Decided s c r (performed s t c r x)
  performed_bounded b x a =
      by_kind (Decided s c r (performed s t c r x)) x a.passes.knows
      (λ e. rw (clock_performed s t c r x e) (unchanged (settled_bounded s _ (clock_set_bounded s t x.clock (clock_grows a.passes e).1 h))))
      (λ e. rw (read_performed s t c r x e) (read_bounded x.client x.object))
      (λ e. rw (ask_performed s t c r x e) (ask_bounded x.client x.object (client_exists a.passes (rw e)) (object_exists a.passes (rw e))))
      (λ e. rw (write_performed s t c r x e) (unchanged (settled_bounded s _ (written_bounded s t x.object x.value rs (object_exists a.passes (rw e)) (version_grows a.passes e) h))))
      (λ e. rw (deliver_performed s t c r x e) (deliver_bounded x.place))
      (λ e. rw (lose_performed s t c r x e) (unchanged (taken_bounded s rs t x.place h)))
      (λ e. rw (double_performed s t c r x e) (unchanged (sent_bounded t _ (named_at s rs t x.place h) h)))
      (λ e. rw (server_performed s t c r x e) (unchanged (server_bounded s t h)))
      (λ e. rw (client_performed s t c r x e) (restart_bounded x.client))

-- ---- the lent records
swept_bounded : (s : Setup) (g : Sweep) (c : Copy) (o : ℕ) → CopyBounded c → CopyBounded (swept s g c o)
unfolding swept
swept_bounded s Keep c o h = h
swept_bounded s (Expire v) c o h = cond_keeps CopyBounded (eqb (volume_of s o) v) (λ _. omega arith) (λ _. h)
swept_bounded s (Forget m) c o h = cond_keeps CopyBounded (bit_at m o) (λ _. omega arith) (λ _. h)
swept_bounded s Erase c o h = omega arith

swept_all_bounded : (s : Setup) (g : Sweep) (first : ℕ) (l : List Copy) → All CopyBounded l → All CopyBounded (swept_all s g first l)
unfolding swept_all
swept_all_bounded s g first l h =
    fold_keeps (All CopyBounded) (sweep_at s g first)
    (λ m k i. each_set CopyBounded m k _ i (swept_bounded s g _ _ (each_get_d CopyBounded m k no_copy i (omega arith))))
    l first _ h

accepted_bounded : (s : Setup) (w : World) (x : Step) → WorldBounded s w → accepts s w x ≡ true → WorldBounded s (stepped s w x)
accepted_bounded s w x h e =
    let a = accepted s w x e in
    let rs = ranges s (setup_in_range a) in
    let g = performed_bounded s rs w.tables (copy_of s w x) (request_of s w x) h.tables _ x a in
    record {
      tables = rw (tables_after s w x e) g.tables;
      copies =
          rw (copies_after_law s w x e)
          (swept_all_bounded s _ _ _
          (each_set CopyBounded w.copies _ _ h.copies (g.copy (each_get_d CopyBounded w.copies _ no_copy h.copies (omega arith)))));
      requests =
          rw (requests_after_law s w x e)
          (each_set_in (RequestBounded s) w.requests _ _ h.requests (λ i. g.request (all_at (RequestBounded s) w.requests _ no_request i h.requests)));
    }

pub stepped_bounded : (s : Setup) (w : World) (x : Step) → WorldBounded s w → WorldBounded s (stepped s w x)
stepped_bounded s w x h =
    ⊎_elim (accepted_bounded s w x h) (λ e. rw (refused_keeps s w x e) h) (true_or_false (accepts s w x))
