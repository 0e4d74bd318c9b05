-- Steps 1 and 4, accepted: the clock moves or a write begins, and writes complete.
use Rattle.std.specs.Prelude.{ℕ, ◌≤◌, true, ◌≡◌}
use Rattle.std.proofs.Common.{arith}
use Rattle.std.proofs.Math.Seq.{set-get_or}
use Rattle.laws.specs.Loop.{fold_from}
use Rattle.protocol.specs.declared.setup.Setup.{Setup}
use Rattle.protocol.specs.declared.step.Step.{Step}
use Rattle.protocol.specs.Tables.{with_clock}
use Rattle.protocol.specs.Writes.{Counted, settled, clock_set, clock_staged, write_staged}
use Rattle.protocol.specs.Client.{swept_all}
use Rattle.protocol.specs.Decide.{counting}
use Rattle.protocol.specs.World.{World, stepped}
use Rattle.protocol.specs.Ledger.{accepts}
use Rattle.protocol.specs.Ranges.{Ranges}
use Rattle.protocol.proofs.Ranges.{ranges}
use Rattle.protocol.specs.Soundness.StepCases.{copy_of, request_of}
use Rattle.protocol.proofs.Soundness.StepCases.{accepted, performed_of, decision_accepted, clock_performed, write_performed, clock_grows, object_exists, none_stands, setup_in_range}
use Rattle.protocol.specs.Soundness.Shape.{SessionsShape, Shape}
use Rattle.protocol.proofs.Soundness.ShapeKept.{clock_set_shape, written_shape}
use Rattle.protocol.specs.Safety.Invariant.{Inv}
use Rattle.protocol.specs.Safety.Replaced.{with_tables}
use Rattle.protocol.proofs.Safety.Time.{clock_keeps}
use Rattle.protocol.proofs.Safety.Marks.{doubts_keep, aged_doubts}
use Rattle.protocol.proofs.Safety.Settling.{due_admits, ready_admits, settled_keeps}
use Rattle.protocol.proofs.Safety.Beginning.{written_keeps}

-- the clock is set, and notes age
clock_set_keeps : (s : Setup) (w : World) (later : ℕ) → Ranges s → SessionsShape w.tables.sessions → w.tables.clock ≤ later → Inv s w → Inv s (with_tables w (clock_set s w.tables later))
unfolding clock_set
clock_set_keeps s w later range shape h inv =
    doubts_keep s range (with_tables w (with_clock w.tables later)) _ (aged_doubts s range later w.tables.sessions shape) (clock_keeps s w later h inv)

module _ (s : Setup) (w : World) (x : Step) (a : accepts s w x ≡ true) where
  -- a step that only completes writes leaves the clients' records
  counting_steps : (c : Counted) → performed_of s w x ≡ counting c → stepped s w x ≡ with_tables w c.tables
  unfolding stepped swept_all fold_from
  counting_steps c e = rw (decision_accepted s w x a, e, set-get_or w.copies, set-get_or w.requests)

  module _ (h : Shape w.tables) (i : Inv s w) where
    pub clock_step_keeps : x.kind ≡ 1 → Inv s (stepped s w x)
    clock_step_keeps k =
        let q = accepted s w x a in
        rw (counting_steps (settled s (clock_staged s w.tables x.clock)) (clock_performed s w.tables (copy_of s w x) (request_of s w x) x k))
        (settled_keeps s w (clock_staged s w.tables x.clock) (ranges s (setup_in_range q)) (due_admits s) (omega arith) (clock_set_shape s w.tables x.clock h)
        (clock_set_keeps s w x.clock (ranges s (setup_in_range q)) h.sessions (clock_grows q.passes k).0 i))

    pub write_step_keeps : x.kind ≡ 4 → Inv s (stepped s w x)
    write_step_keeps k =
        let q = accepted s w x a in
        let r = ranges s (setup_in_range q) in
        let e = object_exists q.passes (rw k) in
        rw (counting_steps (settled s (write_staged s w.tables x.object x.value)) (write_performed s w.tables (copy_of s w x) (request_of s w x) x k))
        (settled_keeps s w (write_staged s w.tables x.object x.value) r (ready_admits s) (omega arith) (written_shape s w.tables x.object x.value h)
        (written_keeps s w x.object x.value r h e (none_stands q.passes k) i))
