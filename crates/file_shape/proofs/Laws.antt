-- Lemmas cited by the function proofs: each derives a postcondition or a loop invariant from the facts of one path or iteration.
use Prim.Native.Nat.{ℕ, ◌+◌, ◌≤◌, ◌<◌}
use native.Mathlib.Omega.{arith}
use mathlib.Core.Bool.{Bool, true, false, not, ◌&&◌, ◌||◌}
use mathlib.Core.List.{List}
use mathlib.Core.Path.{◌≡◌, sym, ap, ◌∙◌}
use lib.Dec.{eqb}
use lib.ListN.{length, get_or}
use borrow.Author.Tests.{le-leb, lt-leb}
use Rattle.laws.specs.Loop.{Scanning, all_by, all_end}
use Rattle.protocol.specs.declared.setup.Setup.{Setup}
use Rattle.protocol.specs.declared.step.Step.{Step}
use Rattle.protocol.specs.Setup.{in_range}
use Rattle.protocol.specs.Gate.{is_clock, is_write, uses_client, uses_object, uses_place}
use Rattle.protocol.specs.Saved.{uses_name, known_kind}
use Rattle.file_records.specs.Records.{setup_in, step_in}
use Rattle.file_shape.specs.Shape.{count_of, distance_of, setup_place, first_place, step_fits, step_fits_at, steps_fit, trailer_fits, measured, contents_fit, well_formed}
use Rattle.file_shape.specs.Parts.{Parts, parts}
use Rattle.file_shape.specs.Places.{place_before, place_is}

-- The test of a step, assembled from what the calls returned.
pub fits_by : (x : Step) (client object place name clock value k : Bool) → client ≡ uses_client x → object ≡ uses_object x → place ≡ uses_place x
    → name ≡ uses_name x → clock ≡ is_clock x → value ≡ is_write x → k ≡ known_kind x
    → (not k
    || (client || eqb x.client 0)
    && (object || eqb x.object 0)
    && (place || name || eqb x.place 0)
    && (clock || eqb x.clock 0)
    && (value || eqb x.value 0)) ≡ step_fits x
unfolding step_fits
fits_by x client object place name clock value k e f g h i j l = rw (e, f, g, h, i, j, l)

-- ---- the loop over the records
-- `ok` says whether all records before k fit.
abbrev pub Asked : List ℕ → Bool → ℕ → Type 0
Asked l ok k = Scanning (step_fits_at l (first_place l)) (count_of l) ok k

module _ (l : List ℕ) (count k : ℕ) (ok : Bool) (n : count ≡ count_of l) (a : Asked l ok k) where
  pub steps_again : (place : ℕ) (x : Step) (r : Bool) → place ≡ place_before l k → k < count → x ≡ step_in l place → r ≡ step_fits x → Asked l (ok && r) (k + 1)
  steps_again place x r e h f g =
      let i : r ≡ step_fits_at l (first_place l) k = g ∙ ap step_fits (f ∙ ap (step_in l) (e ∙ place_is l k)) in
      (omega arith, all_by (step_fits_at l (first_place l)) (count_of l) k ok r _ (omega arith) i a.1)

  pub steps_end : count ≤ k → ok ≡ steps_fit l (first_place l) (count_of l)
  steps_end h = all_end (step_fits_at l (first_place l)) (count_of l) k ok _ (omega arith) a.1

module _ (l : List ℕ) where
  pub too_short : length l < 56 → false ≡ measured l
  unfolding measured
  too_short h = rw (lt-leb _ _ h)

  pub too_long : 56 ≤ length l → 65536 < length l → false ≡ measured l
  unfolding measured
  too_long g h = rw (le-leb _ _ g, lt-leb _ _ h)

  pub by_trailer : (c d : ℕ) (r : Bool) → 56 ≤ length l → length l ≤ 65536 → c ≡ count_of l → d ≡ distance_of l → r ≡ trailer_fits (length l) c d → r ≡ measured l
  unfolding measured
  by_trailer c d r g h e f k = rw (le-leb _ _ g, le-leb _ _ h, ← e, ← f) k

  pub parts_by : (m : Bool) → m ≡ measured l → m ≡ true → Parts l
  parts_by m e h = parts l (sym e ∙ h)

  pub by_contents : (m r : Bool) → m ≡ measured l → m ≡ true → r ≡ contents_fit l → r ≡ well_formed l
  unfolding well_formed
  by_contents m r e h k = rw (← e, h) k

  pub not_measured : (m : Bool) → m ≡ measured l → m ≡ false → m ≡ well_formed l
  unfolding well_formed
  not_measured m e h = h ∙ rw (← e, h)

  -- The test of the contents, assembled from what the calls returned.
  pub contents_by : (p : ℕ) (s : Setup) (a b : Bool) → p ≡ setup_place l → s ≡ setup_in l p → a ≡ in_range s → b ≡ steps_fit l (first_place l) (count_of l)
      → (eqb (get_or l (p + 3) 0) 0 && a && b) ≡ contents_fit l
  unfolding contents_fit
  contents_by p s a b e f g k = rw (g, f, k, e)
