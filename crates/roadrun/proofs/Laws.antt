-- Lemmas cited by the function proofs: each derives a postcondition from the facts of one path.
use Rattle.std.specs.Prelude.{ℕ, Option, ◌+◌, ◌<◌, ◌≤◌, true, false, List, ◌++◌, ◌≡◌, None, Some, IfSome, eqb, leb, length, take, drop}
use Rattle.std.proofs.Common.{arith, ⊎_elim, sym, ap, ◌∙◌, subst, leb-true, leb-false, length-append, length-take-le}
use Rattle.std.proofs.KnownBytes.{Consumes-whole}
use Rattle.std.proofs.lemmas.List.Edits.{sets-eq}
use Rattle.std.specs.Io.KnownBytes.{Appends, Consumes, IsAtEnd}
use lib.Seq.{length-sets, take-append_seam}
use Rattle.laws.specs.Choice.{true_or_false, not_both}
use Rattle.file_shape.specs.Shape.{well_formed}
use Rattle.file_shape.specs.Parts.{formed_parts}
use Rattle.listing.specs.Listing.{refused_listing}
use Rattle.bytes_layout.specs.Written.{Written}
use Rattle.std.specs.Prelude.{Result, Ok, Err}
use Rattle.protocol.specs.declared.refusal.Refusal.{Refusal}
use Rattle.bytes_layout.specs.Report.{Reports}
use Rattle.bytes_layout.proofs.Report.{written_all, refused_none}
use Rattle.run.specs.Listed.{file_listing, list_refusal, listing_fits, listed_all, listed_formed}
use Rattle.roadrun.specs.Printed.{printed, printed_short}

-- ---- the result of `list` with an output that holds any listing
module _ (file before after : List ℕ) (r : Result ℕ Refusal) (room : 112640 ≤ length before) (d : Reports (list_refusal file (length before)) (file_listing file) before after r) where
  pub print_listed : (n : ℕ) → r ≡ Ok n → Written before after 0 (printed file) n
  unfolding printed
  print_listed n h =
      let w = written_all _ _ _ _ _ d n h in
      let t = listed_formed file (length before) w.0 in
      rw t (record { next = omega (arith, w.1.0); bytes = record { stored = w.1.1; long = ap length w.1.1 ∙ length-sets before 0 (file_listing file) } })

  pub print_refused : (k : Refusal) (n : ℕ) (last : List ℕ) → r ≡ Err k → Written after last 0 refused_listing n → Written before last 0 (printed file) n
  unfolding printed
  print_refused k n last h w = ⊎_elim yes no (true_or_false (well_formed file))
    where
      yes : well_formed file ≡ true → Written before last 0 (printed file) n
      yes t = not_both (ap (λ (i : ℕ). eqb i 0) (listed_all file (length before) t (omega (arith, listing_fits file t)))) (refused_none _ _ _ _ _ d k h).1.0

      no : well_formed file ≡ false → Written before last 0 (printed file) n
      no t = rw t (rw (refused_none _ _ _ _ _ d k h).1.1 at w)

-- ---- the part of the output that is printed
module _ (file before after : List ℕ) (n : ℕ) (k : length before ≡ 112640) (w : Written before after 0 (printed file) n) where
  pub part_there : n ≤ length after
  part_there = omega (arith, w.next, w.bytes.long, printed_short file)

  pub part_is : take n after ≡ printed file
  part_is =
      let b = printed file in
      let room : 0 + length b ≤ length before = omega (arith, printed_short file) in
      let whole : n ≡ length b = omega (arith, w.next) in
      ap (take n) (w.bytes.stored ∙ sets-eq b before 0 room) ∙ ap (λ (i : ℕ). take i (b ++ drop (0 + length b) before)) whole ∙ take-append_seam b _

-- ---- what is printed of all that a reader has
-- "A run file, at most 65,536 bytes": a longer one is refused
printed_long : (l : List ℕ) → 65536 < length l → printed l ≡ refused_listing
unfolding printed
printed_long l h = ⊎_elim (λ t. absurd (omega (arith, (formed_parts l t).short))) (λ f. rw f) (true_or_false (well_formed l))

-- so its first bytes, where they are too many already, are answered as the whole is
printed_more : (held holds : Option (List ℕ)) (a b : Option (List ℕ)) (first : List ℕ) → 65536 < length first → Consumes a b first → Appends held holds (printed first)
    → IfSome a (λ xs. Appends held holds (printed xs))
printed_more held holds None b first h p q = tt
printed_more held holds (Some xs) None first h p q = absurd p
printed_more held holds (Some xs) (Some ys) first h p q =
    let more : 65536 < length xs = omega (arith, ap length p, length-append first ys) in
    subst (Appends held holds) (printed_long first h ∙ sym (printed_long xs more)) q

pub printed_all : (a b held holds : Option (List ℕ)) (file : List ℕ) (n : ℕ) → length file ≡ 65537 → n ≤ length file → Consumes a b (take n file)
    → (n < length file → IsAtEnd b) → Appends held holds (printed (take n file)) → IfSome a (λ xs. Appends held holds (printed xs))
printed_all a b held holds file n long within used end done =
    ⊎_elim (λ t. whole (leb-true _ _ t)) (λ f. more (leb-false _ _ f)) (true_or_false (leb n 65536))
  where
    whole : n ≤ 65536 → IfSome a (λ xs. Appends held holds (printed xs))
    whole h = Consumes-whole a b (take n file) (λ xs. Appends held holds (printed xs)) used (end (omega arith)) done

    more : 65536 < n → IfSome a (λ xs. Appends held holds (printed xs))
    more h = printed_more held holds a b (take n file) (omega (arith, length-take-le n file within)) used done
