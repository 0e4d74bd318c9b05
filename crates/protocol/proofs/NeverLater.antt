-- 02, A3: "in runs from fresh tables, this end is never later than the old one"; on tables that no run reaches it can be later. And the greatest over all
-- clients is the same end.
use Rattle.std.specs.Prelude.{ℕ, ◌+◌, ◌<◌, ◌≤◌, max, true, false, List, ◌≡◌}
use Rattle.std.proofs.Common.{arith, inl, inr, ⊎_elim}
use Rattle.laws.specs.Choice.{true_or_false}
use Rattle.laws.specs.Greatest.{greatest, greatest_same}
use Rattle.laws.specs.Line.{OfEach}
use Rattle.laws.specs.Store.{always}
use Rattle.protocol.specs.declared.setup.Setup.{Setup}
use Rattle.protocol.specs.declared.step.Step.{Step}
use Rattle.protocol.specs.declared.tables.Tables.{Tables}
use Rattle.protocol.specs.Setup.{volume_of, in_range}
use Rattle.protocol.specs.Ranges.{Ranges}
use Rattle.protocol.proofs.Ranges.{ranges}
use Rattle.protocol.specs.Tables.{guard_at}
use Rattle.protocol.specs.Writes.{waits, leased_until, latest_end}
use Rattle.protocol.proofs.LatestEnd.{ends_by}
use Rattle.protocol.specs.World.{World, fresh_world, ran}
use Rattle.protocol.specs.Safety.Invariant.{Inv}
use Rattle.protocol.proofs.Safety.Tools.{dead_ended}
use Rattle.protocol.proofs.Safety.Beginning.{unwaited_dead}
use Rattle.protocol.proofs.Reached.{run_safe}
use Rattle.protocol.specs.Saved.{fresh_machine, moved_by}
use Rattle.protocol.proofs.Along.{each_reached}
use Rattle.protocol.specs.NeverLater.{former_end}

-- VE is no earlier than any client's volume lease, and OE than any object lease
safe_never_later : (s : Setup) (w : World) (o : ℕ) → Ranges s → Inv s w → o < s.objects → latest_end s w.tables o ≤ former_end s w.tables o
unfolding former_end
safe_never_later s w o range inv ho =
    ends_by s w.tables o _ (omega arith) (omega arith)
    (λ d hd _. omega (arith, inv.bounds.leases d o hd ho, inv.bounds.sessions d (volume_of s o) hd (range.within o ho)))

pub never_later : (s : Setup) → in_range s ≡ true → (xs : List Step) (o : ℕ) → o < s.objects
    → latest_end s (ran s (fresh_world s) xs).tables o ≤ former_end s (ran s (fresh_world s) xs).tables o
never_later s i xs o ho = safe_never_later s (ran s (fresh_world s) xs) o (ranges s i) (run_safe s i xs) ho

-- with saves and returns among the steps, in the present state and in every saved one
pub never_later_along : (s : Setup) → in_range s ≡ true → (xs : List Step)
    → OfEach (λ (w : World). (o : ℕ) → o < s.objects → latest_end s w.tables o ≤ former_end s w.tables o) (moved_by s (fresh_machine s) xs)
never_later_along s i = each_reached s i (λ (w : World). (o : ℕ) → o < s.objects → latest_end s w.tables o ≤ former_end s w.tables o) (never_later s i)

-- who is not waited for has a lease that has ended
unwaited_lapsed : (s : Setup) (t : Tables) (o d : ℕ) → waits s t o d ≡ false → leased_until s t o d ≤ t.clock
unwaited_lapsed s t o d e = ⊎_elim (λ p. omega (arith, dead_ended _ _ p)) (λ p. omega (arith, dead_ended _ _ p)) (unwaited_dead s t o d e)

pub end_over_all : (s : Setup) (t : Tables) (o : ℕ) → latest_end s t o ≡ greatest always (leased_until s t o) (max (t.clock + s.m) (guard_at t (volume_of s o))) s.clients
unfolding latest_end
end_over_all s t o = greatest_same _ _ _ _ always (λ d _. ⊎_elim inl (λ e. inr (omega (arith, unwaited_lapsed s t o d e))) (true_or_false (waits s t o d)))
