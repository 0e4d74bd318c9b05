-- The listing of a run file's bytes, and when the call that writes it is refused.
use Rattle.std.specs.Prelude.{ℕ, suc, ◌<◌, ◌≤◌, true, false, List, [], ◌∷◌, ◌≡◌, refl, leb, length}
use Rattle.std.proofs.Common.{arith, ap}
use borrow.Author.Tests.{le-leb, lt-leb}
use Rattle.protocol.specs.declared.setup.Setup.{Setup}
use Rattle.protocol.specs.declared.step.Answer.{Answer}
use Rattle.protocol.specs.declared.step.Step.{Step}
use Rattle.protocol.specs.Gate.{or_refuse}
use Rattle.protocol.proofs.Gate.{asked}
use Rattle.protocol.specs.Saved.{Machine, fresh_machine, moved, moved_by, answers_to}
use Rattle.file_shape.specs.Shape.{well_formed}
use Rattle.file_shape.specs.Parts.{Parts, formed_parts}
use Rattle.file_reader.specs.File.{setup_of}
use Rattle.file_reader.specs.Steps.{steps_of, length_steps}
use Rattle.listing.specs.Listing.{listing_of, listing_short}

-- the answers to a file's steps, from fresh tables on and with nothing saved
unfoldable pub answers_of : List ℕ → List Answer
answers_of l = answers_to (setup_of l) (fresh_machine (setup_of l)) (steps_of l)

-- the present state and the saved ones that a file's steps leave
unfoldable pub left_by : List ℕ → Machine
left_by l = moved_by (setup_of l) (fresh_machine (setup_of l)) (steps_of l)

-- the listing of a run file: "prints a header, then a line a step"
unfoldable pub file_listing : List ℕ → List ℕ
file_listing l = listing_of (answers_of l)

-- The refusal of the call that lists file l to an output of n bytes, or 0: "Run file shaped as above, its setup in range? 9"; "a lent output long
-- enough? 8", which comes second, since a refused file has no listing.
unfoldable pub list_refusal : List ℕ → ℕ → ℕ
list_refusal l n = or_refuse (well_formed l) 9 (or_refuse (leb (length (file_listing l)) n) 8 0)

-- ---- a buffer of a fixed size holds any listing
length_answers : (s : Setup) (q : Machine) (xs : List Step) → length (answers_to s q xs) ≡ length xs
unfolding answers_to
length_answers s q [] = refl
length_answers s q (x ∷ xs) = ap suc (length_answers s (moved s q x) xs)

pub listing_fits : (l : List ℕ) → well_formed l ≡ true → length (file_listing l) ≤ 112640
unfolding file_listing answers_of
listing_fits l e = omega (arith, listing_short (answers_of l) (few (formed_parts l e)))
  where
    few : Parts l → length (answers_of l) ≤ 4000
    few p = omega (arith, p.few, length_steps l, length_answers (setup_of l) (fresh_machine (setup_of l)) (steps_of l))

-- ---- the three ways through the call
module _ (l : List ℕ) (n : ℕ) where
  pub listed_all : well_formed l ≡ true → length (file_listing l) ≤ n → list_refusal l n ≡ 0
  unfolding list_refusal
  listed_all e h = rw (e, le-leb _ _ h)

  pub listed_short : well_formed l ≡ true → n < length (file_listing l) → list_refusal l n ≡ 8
  unfolding list_refusal
  listed_short e h = rw (e, lt-leb _ _ h)

  pub listed_none : well_formed l ≡ false → list_refusal l n ≡ 9
  unfolding list_refusal
  listed_none e = rw e

  -- a file that is not refused is a run file
  pub listed_formed : list_refusal l n ≡ 0 → well_formed l ≡ true
  unfolding list_refusal
  listed_formed e = (asked (well_formed l) 8 _ e).0
