-- A list of steps in the room that a run file's steps have.
use Rattle.std.specs.Prelude.{ℕ, ◌-◌, ◌≤◌, ◌≡◌, List, ◌++◌, length, take, drop, replicate}
use Rattle.std.proofs.Common.{arith, take-append-drop, length-take-le}
use Rattle.protocol.specs.declared.step.Step.{Step}
use Rattle.file_records.specs.Records.{no_step}
use Rattle.file_records.specs.Sizes.{STEPS}

-- The steps, and steps of zeros in the rest of the room.
abbrev pub filled_up : List Step → List Step
filled_up xs = xs ++ replicate (STEPS - length xs) no_step

-- ---- items with steps of zeros from n on are given back by the first n
module _ (n : ℕ) (items : List Step) (h : (n ≤ STEPS) × (length items ≡ STEPS) × (drop n items ≡ replicate (STEPS - n) no_step)) where
  pub room_there : n ≤ length items
  room_there = omega (arith, h.0, h.1)

  pub items_again : filled_up (take n items) ≡ items
  items_again = rw (length-take-le n items room_there, ← h.2) (take-append-drop n items)
