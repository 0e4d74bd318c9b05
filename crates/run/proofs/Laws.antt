-- One lemma for each path through a function: the facts found along the path give its contract.
use Prim.Native.Nat.{ℕ, ◌+◌, ◌*◌, ◌<◌, ◌≤◌}
use native.Mathlib.Omega.{arith}
use mathlib.Core.List.{List, ◌++◌}
use mathlib.Core.Path.{◌≡◌, ◌∙◌}
use lib.ListN.{length, take, drop}
use lib.Seq.{sets-eq, take-append_seam, length-take-le}
use Rattle.file_shape.specs.Shape.{count_of, first_place}
use Rattle.file_reader.specs.declared.Contents.{Contents}
use Rattle.file_reader.specs.File.{setup_of, contents, contents_of}
use Rattle.file_reader.specs.Reading.{unformed, formed, contents_read, accepted}
use Rattle.listing.specs.Listing.{header, length_header}
use Rattle.bytes_layout.specs.Written.{Written}
use Rattle.bytes_layout.proofs.Written.{written_then}
use Rattle.run.specs.Ran.{lines_of}
use Rattle.std.specs.Prelude.{Result, Ok, Err}
use Rattle.protocol.specs.declared.refusal.Refusal.{Refusal}
use Rattle.protocol.specs.declared.refusal.Refusal.TheVariants as no
use Rattle.bytes_layout.specs.Report.{Reports}
use Rattle.bytes_layout.proofs.Report.{all_written, none_written}
use Rattle.run.specs.Listed.{answers_of, file_listing, list_refusal, listing_fits, listed_all, listed_short, listed_none}

-- ---- reading the file
module _ (l : List ℕ) (r : Contents) (e : Ok r ≡ contents_of l) (out₀ out : List ℕ) (at : ℕ) (w : Written out₀ out 0 header at) where
  read_is : r ≡ contents (setup_of l) (count_of l) (first_place l)
  read_is = contents_read l r e

  pub print_fits : 112640 ≤ length out₀ → at + 28 * r.count + 63 ≤ length out
  print_fits h =
      let c = accepted l r e in
      omega (arith, c.parts.few, c.counted, w.next, length_header, w.bytes.long)

  pub print_written : (out' : List ℕ) (next : ℕ) → Written out out' at (lines_of r.setup l) next → Written out₀ out' 0 (file_listing l) next
  unfolding file_listing answers_of
  print_written out' next g = written_then out₀ out out' 0 at next header _ w (rw read_is at g)

-- ---- copying the listing to the lent output
abbrev Does : List ℕ → List ℕ → List ℕ → Result ℕ Refusal → Type 0
Does l out out' r = Reports (list_refusal l (length out)) (file_listing l) out out' r

pub list_refused : (l out : List ℕ) (k : Refusal) → Err k ≡ contents_of l → Does l out out (Err k)
list_refused l out k e =
    let u = unformed l k e in
    rw u.1 (none_written _ _ out no.File (listed_none l (length out) u.0))

module _ (l : List ℕ) (r : Contents) (e : Ok r ≡ contents_of l) (room buffer : List ℕ) (n : ℕ) (k : length room ≡ 112640) (w : Written room buffer 0 (file_listing l) n) where
  fits : length (file_listing l) ≤ 112640
  fits = listing_fits l (formed l r e)

  pub listing_there : n ≤ length buffer
  listing_there = omega (arith, w.next, w.bytes.long, fits, k)

  pub copy_fits : (m : ℕ) → n ≤ m → 0 + length (take n buffer) ≤ m
  copy_fits m h = omega (arith, length-take-le n buffer listing_there)

  taken : take n buffer ≡ file_listing l
  taken =
      let i : n ≡ length (file_listing l) = omega (arith, w.next) in
      let b : buffer ≡ file_listing l ++ drop (0 + length (file_listing l)) room = w.bytes.stored ∙ sets-eq (file_listing l) room 0 (omega (arith, fits, k)) in
      rw (i, b) (take-append_seam (file_listing l) (drop (0 + length (file_listing l)) room))

  module _ (out : List ℕ) where
    pub list_written : (out' : List ℕ) (end : ℕ) → n ≤ length out → Written out out' 0 (take n buffer) end → Does l out out' (Ok n)
    list_written out' end h g =
        let i : n ≡ length (file_listing l) = omega (arith, w.next) in
        let f = listed_all l (length out) (formed l r e) (omega arith) in
        rw i (all_written _ _ out out' f (rw taken at g.bytes.stored))

    pub list_short : length out < n → Does l out out (Err no.Room)
    list_short h = none_written _ _ out no.Room (listed_short l (length out) (formed l r e) (omega (arith, w.next)))
