-- A pass over objects that completes the writes that a test lets through.
use Rattle.std.specs.Prelude.{ℕ, ◌+◌, ◌<◌, ◌≤◌, true, false, not, ◌&&◌, ◌≡◌, refl}
use Rattle.std.proofs.Common.{inl, inr, ⊎_elim}
use Rattle.std.proofs.lemmas.Bool.{not-true}
use Rattle.laws.specs.Choice.{cond_keeps, not_both, and-true, or_true}
use Rattle.laws.specs.Loop.{fold_keeps_in, none_each}
use Rattle.protocol.specs.declared.setup.Setup.{Setup}
use Rattle.protocol.specs.declared.tables.Tables.{Tables}
use Rattle.protocol.specs.Setup.{volume_of}
use Rattle.protocol.specs.Tables.{standing_at, end_at, waiting_at}
use Rattle.protocol.specs.Leases.{guard_passed, end_over}
use Rattle.protocol.specs.Writes.{Counted, Staged, waited, ready, due, complete_if, settled}
use Rattle.protocol.specs.Server.{ready_in, of_volume}
use Rattle.protocol.specs.World.{World}
use Rattle.protocol.specs.Ranges.{Ranges}
use Rattle.protocol.specs.Soundness.Shape.{Shape}
use Rattle.protocol.proofs.Soundness.ShapeKept.{completed_shape}
use Rattle.protocol.specs.Safety.Invariant.{Inv}
use Rattle.protocol.proofs.Safety.Tools.{passed_dead}
use Rattle.protocol.specs.Safety.Replaced.{with_tables}
use Rattle.protocol.specs.Safety.Completing.{Completes}
use Rattle.protocol.proofs.Safety.Completing.{completed_keeps}
use Rattle.protocol.specs.Safety.Settling.{Admits}

-- "no waiting dash and clock at or past guard"
unhindered : (s : Setup) (t : Tables) (o : ℕ) → (not (waited s t o) && guard_passed t (volume_of s o)) ≡ true → Completes s t o
unfolding waited
unhindered s t o e =
    let a = and-true _ _ e in
    inl (none_each (λ (d : ℕ). waiting_at t d o) s.clients (not-true _ a.0), passed_dead t (volume_of s o) a.1)

pub ready_admits : (s : Setup) → Admits s (ready s)
unfolding ready
ready_admits s t o e =
    let a = and-true (standing_at t o) _ e in
    (a.0, unhindered s t o a.1)

pub ready_in_admits : (s : Setup) (v : ℕ) → Admits s (ready_in s v)
ready_in_admits s v t o e = ready_admits s t o (and-true (of_volume s v o) (ready s t o) e).1

pub due_admits : (s : Setup) → Admits s (due s)
unfolding due
due_admits s t o e =
    let a = and-true (standing_at t o) _ e in
    (a.0, ⊎_elim (unhindered s t o) inr (or_true _ (end_over t.clock (end_at t o)) a.1))

-- the test of a step that completes nothing
pub none_admits : (s : Setup) → Admits s (λ t o. false)
none_admits s t o e = not_both e refl

pub settled_keeps : (s : Setup) (w : World) (g : Staged) → Ranges s → Admits s g.test → g.from + g.many ≤ s.objects → Shape g.tables → Inv s (with_tables w g.tables)
    → Inv s (with_tables w (settled s g).tables)
unfolding settled
settled_keeps s w g r a n h i =
    (fold_keeps_in (λ (c : Counted). Shape c.tables × Inv s (with_tables w c.tables)) (complete_if g.test s) s.objects turn (record { count = 0; tables = g.tables }) g.from g.many n
    (h, i)).1
  where
    turn : (c : Counted) (o : ℕ) → o < s.objects → Shape c.tables × Inv s (with_tables w c.tables)
        → Shape (complete_if g.test s c o).tables × Inv s (with_tables w (complete_if g.test s c o).tables)
    turn c o ho p =
        cond_keeps (λ (c : Counted). Shape c.tables × Inv s (with_tables w c.tables)) (g.test c.tables o)
        (λ e. let b = a c.tables o e in (completed_shape s c.tables o p.0, completed_keeps s (with_tables w c.tables) o r p.0 ho b.0 b.1 p.1)) (λ e. p)
