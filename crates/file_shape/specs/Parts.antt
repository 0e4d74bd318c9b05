-- The lengths of a run file's parts, which add up to the file's length.
use Rattle.std.specs.Prelude.{ℕ, ◌+◌, ◌*◌, ◌≤◌, true, ◌&&◌, List, ◌≡◌, leb, eqb, length}
use Rattle.std.proofs.Common.{arith, leb-true, eqb-true}
use Rattle.laws.specs.Choice.{and-true}
use Rattle.protocol.specs.Setup.{between, in_range}
use Rattle.file_records.specs.Records.{setup_in}
use Rattle.file_shape.specs.Shape.{count_of, distance_of, setup_place, first_place, reserved, steps_fit, trailer_fits, measured, contents_fit, well_formed}

-- What `measured` guarantees about a file.
pub record Parts (l : List ℕ) : Type 0 where
  pub long : 56 ≤ length l
  pub short : length l ≤ 65536
  pub few : count_of l ≤ 4000
  pub right : distance_of l ≡ 56 + 16 * count_of l
  pub room : distance_of l ≤ length l

pub parts : (l : List ℕ) → measured l ≡ true → Parts l
unfolding measured
parts l e =
    let n : ℕ = length l in
    let c : ℕ = count_of l in
    let d : ℕ = distance_of l in
    let a = and-true (between 56 65536 n) (trailer_fits n c d) e in
    let b = and-true (leb 56 n) (leb n 65536) a.0 in
    let f = and-true (leb c 4000 && eqb d (56 + 16 * c)) (leb d n) a.1 in
    let g = and-true (leb c 4000) (eqb d (56 + 16 * c)) f.0 in
    record { long = leb-true _ _ b.0; short = leb-true _ _ b.1; few = leb-true _ _ g.0; right = eqb-true _ _ g.1; room = leb-true _ _ f.1 }

-- The trailer follows the steps and ends the file.
pub whole : (l : List ℕ) → Parts l → first_place l + 16 * count_of l + 8 ≡ length l
whole l p = omega arith

pub formed_parts : (l : List ℕ) → well_formed l ≡ true → Parts l
unfolding well_formed
formed_parts l e = parts l (and-true (measured l) (contents_fit l) e).0

-- The byte after the setup's counts is 0, and the setup is in range.
formed_setup : (l : List ℕ) → well_formed l ≡ true → (eqb (reserved l (setup_place l)) 0 ≡ true) × (in_range (setup_in l (setup_place l)) ≡ true)
unfolding well_formed contents_fit
formed_setup l e =
    let p : ℕ = setup_place l in
    let a = (and-true (measured l) (contents_fit l) e).1 in
    let b = (and-true (eqb (reserved l p) 0 && in_range (setup_in l p)) (steps_fit l (first_place l) (count_of l)) a).0 in
    and-true (eqb (reserved l p) 0) (in_range (setup_in l p)) b

pub formed_spare : (l : List ℕ) → well_formed l ≡ true → reserved l (setup_place l) ≡ 0
formed_spare l e = eqb-true _ _ (formed_setup l e).0

pub formed_in_range : (l : List ℕ) → well_formed l ≡ true → in_range (setup_in l (setup_place l)) ≡ true
formed_in_range l e = (formed_setup l e).1
