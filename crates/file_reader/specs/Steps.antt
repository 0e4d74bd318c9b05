-- The steps of a run file, in order.
use Rattle.std.specs.Prelude.{ℕ, zero, suc, ◌+◌, ◌-◌, ◌*◌, ◌<◌, ◌≤◌, List, [], ◌∷◌, ◌≡◌, length, get_or}
use native.Mathlib.Omega.{arith}
use Rattle.std.proofs.Math.Path.{refl, sym, ap}
use Rattle.std.proofs.Common.{◌∙◌, le-leb}
use Rattle.laws.specs.Loop.{left_more, left_none}
use Rattle.protocol.specs.declared.step.Step.{Step}
use Rattle.file_records.specs.Records.{step_in}
use Rattle.file_shape.specs.Shape.{count_of, first_place, place_of}
use Rattle.file_shape.specs.Parts.{Parts}
use Rattle.file_shape.specs.Places.{place_before, place_is, place_first, place_next, record_there}
use Rattle.file_reader.specs.File.{step_at}

-- The steps in n records from place p on.
unfoldable pub steps_from : List ℕ → ℕ → ℕ → List Step
steps_from l p zero = []
steps_from l p (suc n) = step_in l p ∷ steps_from l (p + 16) n

-- The steps of a file: "up to 4,000 steps of 16 bytes".
unfoldable pub steps_of : List ℕ → List Step
steps_of l = steps_from l (first_place l) (count_of l)

length_from : (l : List ℕ) (p n : ℕ) → length (steps_from l p n) ≡ n
unfolding steps_from
length_from l p zero = refl
length_from l p (suc n) = ap suc (length_from l (p + 16) n)

pub length_steps : (l : List ℕ) → length (steps_of l) ≡ count_of l
unfolding steps_of
length_steps l = length_from l (first_place l) (count_of l)

pub from_at : (l : List ℕ) (p n k : ℕ) (d : Step) → k < n → get_or (steps_from l p n) k d ≡ step_in l (place_of p k)
unfolding steps_from
from_at l p zero k d h = absurd (omega arith)
from_at l p (suc n) zero d h =
    let e : p + 16 * 0 ≡ p = omega arith in
    rw e
from_at l p (suc n) (suc k) d h =
    let e : p + 16 * suc k ≡ p + 16 + 16 * k = omega arith in
    rw e (from_at l (p + 16) n k d (omega arith))

-- ---- the running place
module _ (l : List ℕ) where
  -- The steps from step k on.
  abbrev pub steps_left : ℕ → List Step
  steps_left k = steps_from l (place_before l k) (count_of l - k)

  pub left_first : steps_left 0 ≡ steps_of l
  unfolding steps_of
  left_first =
      let e : count_of l - 0 ≡ count_of l = omega arith in
      rw (place_first l, e)

  pub left_last : (k : ℕ) → count_of l ≤ k → steps_left k ≡ []
  unfolding steps_from
  left_last k h = rw (left_none (count_of l) k h)

  module _ (place k : ℕ) (e : place ≡ place_before l k) (p : Parts l) (h : k < count_of l) where
    -- The record lies within the file, so `step_at` reads it.
    pub step_there : step_at l place ≡ step_in l place
    unfolding step_at
    step_there = rw (le-leb _ _ (record_there l place k e p (count_of l) refl h))

    -- The step read is the first of those left.
    pub left_next : steps_left k ≡ step_at l place ∷ steps_left (k + 1)
    unfolding steps_from
    left_next = rw (left_more (count_of l) k h, ← e, ← place_next l place k e, step_there)

    pub step_is : (d : Step) → step_at l place ≡ get_or (steps_of l) k d
    unfolding steps_of
    step_is d = step_there ∙ ap (step_in l) (e ∙ place_is l k) ∙ sym (from_at l (first_place l) (count_of l) k d h)
