-- A list of steps in its room, with one step more.
use Rattle.std.specs.Prelude.{ℕ, ◌+◌, ◌-◌, ◌<◌, ◌≤◌, ◌≡◌, List, length, take, drop, set, replicate}
use Rattle.std.proofs.Common.{arith, length-take-le}
use Rattle.std.proofs.lemmas.List.{drop-drop, drop-replicate, drop-set-lt, length-set}
use Rattle.protocol.specs.declared.step.Step.{Step}
use Rattle.file_records.specs.Records.{no_step}
use Rattle.file_records.specs.Room.{room_there}
use Rattle.file_records.specs.Sizes.{STEPS}

-- A step stored after the last one keeps the invariant of the list.
pub one_more : (n : ℕ) (items : List Step) (x : Step) → (n ≤ STEPS) × (length items ≡ STEPS) × (drop n items ≡ replicate (STEPS - n) no_step)
    → length (take n items) < STEPS
    → (n + 1 ≤ STEPS) × (length (set items n x) ≡ STEPS) × (drop (n + 1) (set items n x) ≡ replicate (STEPS - (n + 1)) no_step)
one_more n items x h f =
    let g : n < STEPS = omega (arith, f, length-take-le n items (room_there n items h)) in
    let e : STEPS - n - 1 ≡ STEPS - (n + 1) = omega arith in
    (omega (arith, g), rw (length-set items n x, h.1), rw (drop-set-lt (n + 1) items n x (omega arith), ← drop-drop 1 n items, h.2, drop-replicate 1 (STEPS - n) no_step, e))
