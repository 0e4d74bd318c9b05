-- Lemmas cited by the function proofs: each derives a postcondition or a loop invariant from the facts of one path or iteration.
use Prim.Native.Nat.{ℕ, ◌+◌, ◌*◌, ◌<◌, ◌≤◌}
use native.Mathlib.Omega.{arith}
use mathlib.Core.Bool.{Bool, true, false}
use mathlib.Core.List.{List, [], ◌∷◌, ◌++◌}
use Rattle.std.specs.Prelude.{Result, Ok, Err}
use Rattle.std.specs.List.{list_all}
use Rattle.std.proofs.Common.{⊎_elim, length-take-le}
use Rattle.std.proofs.lemmas.List.{get_or_default, take_more}
use Rattle.std.proofs.lemmas.List.Sums.{AllPass-from_list_all, list_all-from_AllPass}
use Rattle.laws.specs.Choice.{true_or_false}
use mathlib.Core.Path.{◌≡◌, refl, sym, ap, ◌∙◌}
use lib.ListN.{length, get_or, take}
use lib.Seq.{take-length}
use borrow.Author.Tests.{le-leb, lt-leb}
use Rattle.laws.specs.Lists.{All, all_snoc}
use Rattle.laws.specs.Loop.{all_from, all_each, all_of}
use Rattle.protocol.specs.declared.setup.Setup.{Setup}
use Rattle.protocol.specs.Setup.{in_range}
use Rattle.file_shape.specs.Shape.{step_fits}
use Rattle.protocol.specs.declared.refusal.Refusal.{Refusal}
use Rattle.protocol.specs.declared.refusal.Refusal.TheVariants as no
use Rattle.protocol.specs.declared.step.Step.{Step}
use Rattle.bytes_layout.specs.Report.{Reports}
use Rattle.bytes_layout.proofs.Report.{all_written, none_written}
use Rattle.bytes_layout.specs.Written.{Written}
use Rattle.bytes_layout.proofs.Written.{written_then}
use Rattle.file_records.specs.Bytes.{setup_bytes, step_bytes, steps_bytes, trailer_bytes, file_bytes, file_length, steps_more, length_steps}
use Rattle.file_records.specs.Round.{Widths}
use Rattle.file_records.specs.Records.{no_step}
use Rattle.file_writer.specs.File.{fits_at, all_fit, sizes_fit, file_fits, write_refusal, fitting}
use Rattle.file_writer.specs.ReadBack.{ReadAs, not_refused}

-- ---- the test of the steps
pub list_fits : (xs : List Step) → list_all step_fits xs ≡ all_fit xs
unfolding all_fit
list_fits xs = ⊎_elim yes no (true_or_false (list_all step_fits xs))
  where
    yes : list_all step_fits xs ≡ true → list_all step_fits xs ≡ all_from (fits_at xs) 0 (length xs)
    yes t = t ∙ sym (all_of (fits_at xs) (length xs) (λ k h. AllPass-from_list_all step_fits xs t k no_step h))

    no : list_all step_fits xs ≡ false → list_all step_fits xs ≡ all_from (fits_at xs) 0 (length xs)
    no f = ⊎_elim (λ t. absurd (never t)) (λ t. f ∙ sym t) (true_or_false (all_from (fits_at xs) 0 (length xs)))
      where
        never : all_from (fits_at xs) 0 (length xs) ≡ true → ⊥
        never t =
            let g = list_all-from_AllPass step_fits xs (λ k d h. ap step_fits (get_or_default xs k d no_step h) ∙ all_each (fits_at xs) (length xs) t k h) in
            cc

-- ---- the loop that writes the steps: k of them are written
module _ (xs : List Step) where
  -- The first k steps.
  abbrev pub Written_first : List ℕ → List ℕ → ℕ → ℕ → ℕ → Type 0
  Written_first before out at place k = Written before out at (steps_bytes (take k xs)) place × All Widths (take k xs)

  pub steps_none : (out : List ℕ) (at : ℕ) → Written_first out out at at 0
  unfolding steps_bytes All
  steps_none out at = (record { next = omega arith; bytes = record { stored = refl; long = refl } }, tt)

  module _ (before out : List ℕ) (at place k : ℕ) (w : Written_first before out at place k) (h : k ≤ length xs) where
    pub place_is : place ≡ at + 16 * k
    place_is = omega (arith, w.0.next, length_steps (take k xs), length-take-le k xs h)

    pub step_fits_law : k < length xs → at + 16 * length xs ≤ length before → place + 16 ≤ length out
    step_fits_law g r = omega (arith, place_is, w.0.bytes.long)

    pub steps_again : (x : Step) (after : List ℕ) (next : ℕ) → k < length xs → x ≡ get_or xs k x → Written out after place (step_bytes x) next → Widths x
        → Written_first before after at next (k + 1)
    steps_again x after next g e v i =
        let t : take (k + 1) xs ≡ take k xs ++ (x ∷ []) = take_more xs k x g ∙ rw (← e) in
        (rw (t, steps_more (take k xs) x) (written_then before out after at place next _ _ w.0 v), rw t (all_snoc Widths (take k xs) x w.1 i))

    pub steps_end : length xs ≤ k → Written before out at (steps_bytes xs) place × All Widths xs
    steps_end g =
        let e : k ≡ length xs = omega arith in
        rw (e, take-length xs) at w

-- ---- whether the file fits
module _ (n : ℕ) (xs : List Step) (room : ℕ) where
  pub too_many : 4000 < length xs → false ≡ file_fits n xs room
  unfolding file_fits sizes_fit
  too_many h = rw (lt-leb _ _ h)

  pub too_long : length xs ≤ 4000 → 65536 < file_length n (length xs) → false ≡ file_fits n xs room
  unfolding file_fits sizes_fit
  too_long g h = rw (le-leb _ _ g, lt-leb _ _ h)

  pub no_room : length xs ≤ 4000 → file_length n (length xs) ≤ 65536 → room < file_length n (length xs) → false ≡ file_fits n xs room
  unfolding file_fits sizes_fit
  no_room g h i = rw (le-leb _ _ g, le-leb _ _ h, lt-leb _ _ i)

  pub by_steps : (r : Bool) → length xs ≤ 4000 → file_length n (length xs) ≤ 65536 → file_length n (length xs) ≤ room → r ≡ list_all step_fits xs → r ≡ file_fits n xs room
  unfolding file_fits sizes_fit
  by_steps r g h i e = rw (le-leb _ _ g, le-leb _ _ h, le-leb _ _ i) (e ∙ list_fits xs)

pub few_steps : (note out : List ℕ) (xs : List Step) → file_fits (length note) xs (length out) ≡ true → length xs ≤ 4000
few_steps note out xs e = (fitting _ xs _ e).few

-- ---- writing the parts of a file that fits, one after the other
module _ (note out a : List ℕ) (s : Setup) (xs : List Step) (at : ℕ) (e : file_fits (length note) xs (length out) ≡ true) where
  pub note_fits : 0 + length note ≤ length out
  note_fits = omega (arith, (fitting _ xs _ e).room_there)

  module _ (u : Written out a 0 note at) where
    pub setup_fits : at + 48 ≤ length a
    setup_fits = omega (arith, (fitting _ xs _ e).room_there, u.next, u.bytes.long)

    module _ (b : List ℕ) (first : ℕ) (v : Written a b at (setup_bytes s) first) (f : first ≡ at + 48) where
      pub steps_fit_law : first + 16 * length xs ≤ length b
      steps_fit_law = omega (arith, (fitting _ xs _ e).room_there, u.next, u.bytes.long, v.bytes.long)

      module _ (c : List ℕ) (end : ℕ) (w : Written b c first (steps_bytes xs) end) where
        pub trailer_fits_law : end + 8 ≤ length c
        trailer_fits_law =
            omega (arith, (fitting _ xs _ e).room_there, u.next, u.bytes.long, v.bytes.long, w.next, w.bytes.long, length_steps xs)

        pub file_written : (d : List ℕ) (last : ℕ) → Written c d end (trailer_bytes (length xs)) last → Written out d 0 (file_bytes note s xs) last
        unfolding file_bytes
        file_written d last t =
            written_then out a d 0 at last _ _ u (written_then a b d at first last _ _ v (written_then b c d first end last _ _ w t))

-- ---- the result of the call
module _ (note out : List ℕ) (s : Setup) (xs : List Step) (r : Bool) (e : r ≡ in_range s) where
  abbrev Does : List ℕ → Result ℕ Refusal → Type 0
  Does after a = Reports (write_refusal (length note) s xs (length out)) (file_bytes note s xs) out after a

  pub out_of_range : r ≡ false → Does out (Err no.Setup)
  unfolding write_refusal
  out_of_range h = none_written _ _ out no.Setup (rw (← e, h))

  module _ (h : r ≡ true) (t : Bool) (f : t ≡ file_fits (length note) xs (length out)) where
    pub not_fitting : t ≡ false → Does out (Err no.Parts)
    unfolding write_refusal
    not_fitting g = none_written _ _ out no.Parts (rw (← e, h, ← f, g))

    module _ (g : t ≡ true) where
      unrefused : write_refusal (length note) s xs (length out) ≡ 0
      unfolding write_refusal
      unrefused = rw (← e, h, ← f, g)

      pub file_reported : (after : List ℕ) (n : ℕ) → Written out after 0 (file_bytes note s xs) n → Does after (Ok n)
      file_reported after n w =
          let i : n ≡ length (file_bytes note s xs) = omega (arith, w.next) in
          rw i (all_written _ _ out after unrefused w.bytes.stored)

      pub file_read : length s.volume ≡ 28 → All Widths xs → ReadAs (file_bytes note s xs) note s xs
      file_read v w = not_refused note s xs (length out) v w unrefused
