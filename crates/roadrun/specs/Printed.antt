-- What the program prints for the bytes that it reads.
use Rattle.std.specs.Prelude.{ℕ, ◌≤◌, cond, List, length}
use Rattle.std.proofs.Common.{arith, length-append}
use Rattle.laws.specs.Choice.{cond_keeps}
use Rattle.file_shape.specs.Shape.{well_formed}
use Rattle.listing.specs.Listing.{header, line, refused_listing, length_header, line_short}
use Rattle.run.specs.Listed.{file_listing, listing_fits}

-- "prints a header, then a line a step"; "A refused file prints the header and "0 4 9"."
unfoldable pub printed : List ℕ → List ℕ
printed l = cond (well_formed l) (file_listing l) refused_listing

-- A buffer of 112,640 bytes holds it.
pub printed_short : (l : List ℕ) → length (printed l) ≤ 112640
unfolding printed
printed_short l = cond_keeps (λ (b : List ℕ). length b ≤ 112640) (well_formed l) (listing_fits l) (λ _. short)
  where
    short : length refused_listing ≤ 112640
    short = omega (arith, length-append header (line 0 4 9), length_header, line_short 0 4 9 (omega arith) (omega arith))
