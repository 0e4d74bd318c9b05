-- 02, A2: the running place of a loop over the step records of a run file.
use Prim.Native.Nat.{ℕ, zero, suc, ◌+◌, ◌-◌, ◌*◌, ◌<◌, ◌≤◌}
use Rattle.std.proofs.Common.{add-one}
use native.Mathlib.Omega.{arith}
use Rattle.std.specs.Prelude.{List, ◌≡◌, length}
use Rattle.std.proofs.Math.Path.{refl}
use Rattle.file_shape.specs.Shape.{count_of, setup_place, first_place}
use Rattle.file_shape.specs.Parts.{Parts, whole}

-- The running place before record k, counted from 0: "keep a running place and add 16 after each".
unfoldable pub place_before : List ℕ → ℕ → ℕ
place_before l zero = first_place l
place_before l (suc k) = place_before l k + 16

-- Where the trailer begins.
abbrev pub trailer_place : List ℕ → ℕ
trailer_place l = length l - 8

module _ (l : List ℕ) where
  -- "before record k, from 0, it is the setup's place + 48 + 16 × k"
  pub place_is : (k : ℕ) → place_before l k ≡ setup_place l + 48 + 16 * k
  unfolding place_before
  place_is zero = omega arith
  place_is (suc k) = omega (arith, place_is k)

  -- After the last record it is where the trailer begins.
  pub place_last : Parts l → place_before l (count_of l) ≡ trailer_place l
  place_last p = omega (arith, place_is (count_of l), whole l p)

  -- ---- facts for a loop: where its place starts, where it is one record later, that the record lies within the file, and where the place ends
  pub place_first : place_before l 0 ≡ first_place l
  unfolding place_before
  place_first = refl

  pub place_starts : (setup : ℕ) → setup ≡ setup_place l → setup + 48 ≡ place_before l 0
  place_starts setup e = rw (place_first, e)

  module _ (place k : ℕ) (e : place ≡ place_before l k) where
    pub place_next : place + 16 ≡ place_before l (k + 1)
    unfolding place_before
    place_next = rw (e, add-one)

    pub record_there : Parts l → (count : ℕ) → count ≡ count_of l → k < count → place + 16 ≤ length l
    record_there p count n h = omega (arith, place_is k, place_is (count_of l), place_last p)

    pub place_ends : Parts l → (count : ℕ) → count ≡ count_of l → k ≤ count → count ≤ k → place ≡ trailer_place l
    place_ends p count n g h = omega (arith, place_is k, place_is (count_of l), place_last p)
