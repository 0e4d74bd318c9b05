-- Every step keeps the invariant, and under it every client reads what is current.
use Rattle.std.proofs.Common.{arith, inl, ⊎_elim, ne_eqb}
use Rattle.std.specs.Prelude.{true, not, ◌≡◌, refl, eqb}
use Rattle.std.proofs.Math.Seq.{set-get_or}
use Rattle.std.proofs.lemmas.Bool.{eqb-false, not-true}
use Rattle.laws.specs.Choice.{cond_keeps, true_or_false, and-true}
use Rattle.protocol.specs.declared.message.Message.{Message}
use Rattle.protocol.specs.declared.setup.Setup.{Setup}
use Rattle.protocol.specs.declared.step.Decision.{Decision}
use Rattle.protocol.specs.declared.step.Step.{Step}
use Rattle.protocol.specs.Setup.{in_range, volume_of}
use Rattle.protocol.specs.Messages.{message_at, object_of}
use Rattle.protocol.specs.Tables.{view_expiry_at}
use Rattle.protocol.specs.Leases.{client_alive}
use Rattle.protocol.specs.Client.{showable}
use Rattle.protocol.specs.Decide.{read_decided, ask_decided, deliver_decided, restart_decided}
use Rattle.protocol.specs.World.{World, target_at, target, world_after, stepped}
use Rattle.protocol.specs.Ledger.{accepts}
use Rattle.protocol.specs.Ranges.{Ranges}
use Rattle.protocol.proofs.Ranges.{ranges}
use Rattle.protocol.specs.Soundness.StepCases.{Accepted, copy_of, request_of, records_of}
use Rattle.protocol.proofs.Soundness.StepCases.{accepted, by_kind, performed_of, decision_accepted, refused_keeps, setup_in_range, client_exists, object_exists, place_exists, queue_fits, message_fits, read_performed, ask_performed, deliver_performed, lose_performed, double_performed, server_performed, client_performed}
use Rattle.protocol.specs.Soundness.Question.{SoundWorld}
use Rattle.protocol.specs.Bookkeeping.Agreed.{ReadsCurrent}
use Rattle.protocol.specs.Safety.View.{copy_at}
use Rattle.protocol.specs.Safety.Invariant.{Inv, clocks_of}
use Rattle.protocol.proofs.Safety.Tools.{sent_at_law}
use Rattle.protocol.proofs.Safety.Sending.{lost, doubling}
use Rattle.protocol.proofs.Safety.Sweeping.{swept_keep}
use Rattle.protocol.proofs.Safety.Asking.{asks}
use Rattle.protocol.proofs.Safety.ClientRestart.{client_restart_law}
use Rattle.protocol.proofs.Safety.ServerRestart.{server_restart_law}
use Rattle.protocol.proofs.Safety.ClockAndWrite.{clock_step_keeps, write_step_keeps}
use Rattle.protocol.proofs.Safety.Delivering.{receipt_keeps}

-- ---- one accepted step, by its kind
module _ (s : Setup) (w : World) (x : Step) (a : accepts s w x ≡ true) (sound : SoundWorld s w) (inv : Inv s w) where
  facts : Accepted s w.tables (records_of s w) (request_of s w x) x
  facts = accepted s w x a

  range : Ranges s
  range = ranges s (setup_in_range facts)

  stepped_leaves : (g : Decision) → performed_of s w x ≡ g → Inv s (world_after s w (target s w.tables x) g) → Inv s (stepped s w x)
  unfolding stepped
  stepped_leaves g e h = rw (decision_accepted s w x a, e) h

  -- the step names the client's records, or the message that it delivers does
  named : (x.kind ≡ 5 → ⊥) → target s w.tables x ≡ target_at s x.client x.object
  unfolding target
  named n = rw (ne_eqb x.kind 5 n)

  abbrev m : Message
  m = message_at w.tables.queue x.place

  message_target : x.kind ≡ 5 → target s w.tables x ≡ target_at s m.client (object_of m.kind)
  unfolding target
  message_target e = rw e

  read_keeps : x.kind ≡ 2 → Inv s (stepped s w x)
  unfolding read_decided
  read_keeps e =
      stepped_leaves _ (read_performed s w.tables (copy_of s w x) (request_of s w x) x e)
      (cond_keeps (λ (g : Decision). Inv s (world_after s w (target s w.tables x) g)) (showable s w.tables (copy_of s w x) x.client x.object)
      (λ b. rw (set-get_or w.copies, set-get_or w.requests, swept_keep s) inv) (λ b. rw (set-get_or w.copies, set-get_or w.requests, swept_keep s) inv))

  ask_keeps : x.kind ≡ 3 → Inv s (stepped s w x)
  unfolding ask_decided
  ask_keeps e =
      stepped_leaves _ (ask_performed s w.tables (copy_of s w x) (request_of s w x) x e)
      (rw (named (λ q. omega arith), set-get_or w.copies, swept_keep s)
      (asks s range w inv sound.shape x.client x.object (client_exists facts.passes (rw e)) (object_exists facts.passes (rw e))))

  deliver_keeps : x.kind ≡ 5 → Inv s (stepped s w x)
  unfolding deliver_decided
  deliver_keeps e =
      stepped_leaves _ (deliver_performed s w.tables (copy_of s w x) (request_of s w x) x e)
      (rw (message_target e)
      (receipt_keeps s range w inv sound.shape (queue_fits facts) x.place (place_exists facts.passes (rw e)) m.client
      (inv.messages m (sent_at_law w.tables.queue x.place (place_exists facts.passes (rw e)))).client m.kind
      (message_fits facts x.place (place_exists facts.passes (rw e))) (sent_at_law w.tables.queue x.place (place_exists facts.passes (rw e)))))

  lose_keeps : x.kind ≡ 6 → Inv s (stepped s w x)
  lose_keeps e =
      stepped_leaves _ (lose_performed s w.tables (copy_of s w x) (request_of s w x) x e)
      (rw (set-get_or w.copies, set-get_or w.requests, swept_keep s) (lost s w inv x.place sound.shape.tables.queue.items (queue_fits facts) (place_exists facts.passes (rw e))))

  double_keeps : x.kind ≡ 7 → Inv s (stepped s w x)
  double_keeps e =
      stepped_leaves _ (double_performed s w.tables (copy_of s w x) (request_of s w x) x e)
      (rw (set-get_or w.copies, set-get_or w.requests, swept_keep s) (doubling s w inv x.place sound.shape.tables.queue.items (place_exists facts.passes (rw e))))

  server_keeps : x.kind ≡ 8 → Inv s (stepped s w x)
  server_keeps e =
      stepped_leaves _ (server_performed s w.tables (copy_of s w x) (request_of s w x) x e)
      (rw (set-get_or w.copies, set-get_or w.requests, swept_keep s) (server_restart_law s range w inv sound.shape.tables))

  client_keeps : x.kind ≡ 9 → Inv s (stepped s w x)
  unfolding restart_decided
  client_keeps e =
      stepped_leaves _ (client_performed s w.tables (copy_of s w x) (request_of s w x) x e)
      (rw (named (λ q. omega arith), set-get_or w.copies) (client_restart_law s range w inv sound.shape x.client (client_exists facts.passes (rw e))))

  accepted_keeps : Inv s (stepped s w x)
  accepted_keeps =
      by_kind (Inv s (stepped s w x)) x facts.passes.knows (clock_step_keeps s w x a sound.shape.tables inv) read_keeps ask_keeps (write_step_keeps s w x a sound.shape.tables inv)
      deliver_keeps lose_keeps double_keeps server_keeps client_keeps

pub step_keeps : (s : Setup) (w : World) (x : Step) → SoundWorld s w → Inv s w → Inv s (stepped s w x)
step_keeps s w x sound inv =
    ⊎_elim (λ a. accepted_keeps s w x a sound inv) (λ a. rw (refused_keeps s w x a) inv) (true_or_false (accepts s w x))

-- ---- a copy that may be shown is current
pub reads_current : (s : Setup) → in_range s ≡ true → (w : World) → SoundWorld s w → Inv s w → ReadsCurrent s w
unfolding showable
reads_current s i w sound inv d o hd ho e =
    let c = copy_at s w.copies d o in
    let a = and-true (not (eqb c.version 0)) _ e in
    let b = and-true (client_alive (clocks_of w.tables d) (view_expiry_at w.tables d (volume_of s o))) (client_alive (clocks_of w.tables d) c.expiry) a.1 in
    let h = (inv.views d (volume_of s o) hd ((ranges s i).within o ho)).holds o (record { exists = ho; inside = refl; copy = eqb-false _ _ (not-true _ a.0); alive = b.1 }) (inl b.0) in
    inv.versions.values d o hd ho h.0
