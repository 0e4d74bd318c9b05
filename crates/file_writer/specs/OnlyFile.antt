-- 02, A5: "no other file of the same note has those parts".
use Prim.Native.Nat.{ℕ, zero, suc, ◌+◌, ◌*◌, ◌≤◌}
use native.Mathlib.Omega.{arith}
use Rattle.std.specs.Prelude.{true, false, ◌≡◌, get_or}
use Rattle.std.proofs.Math.Logic.{⊎_elim}
use Rattle.laws.specs.Choice.{true_or_false}
use mathlib.Core.List.{List, ◌++◌, append_assoc}
use Rattle.std.proofs.Common.{sym, ◌∙◌, take-append-drop, get_or-drop}
use Rattle.std.proofs.Math.Path.{ap}
use Rattle.std.proofs.Math.ListN.{length, drop, length-drop}
use Rattle.std.proofs.Math.Seq.{drop-drop}
use Rattle.bytes_layout.specs.Number.{Bytes}
use Rattle.protocol.specs.declared.setup.Setup.{Setup}
use Rattle.protocol.specs.declared.step.Step.{Step}
use Rattle.file_records.specs.Records.{setup_in, step_in}
use Rattle.file_shape.specs.Shape.{count_of, setup_place, first_place, well_formed}
use Rattle.file_shape.specs.Parts.{Parts, formed_parts, whole, formed_spare}
use Rattle.file_shape.specs.Places.{trailer_place}
use Rattle.file_reader.specs.File.{contents_of, note_of}
use Rattle.file_reader.specs.Steps.{steps_from, steps_of, length_steps}
use Rattle.file_records.specs.Bytes.{setup_bytes, step_bytes, steps_bytes, trailer_bytes, file_bytes}
use Rattle.file_records.specs.Round.{step_there, setup_there, bytes_left, step_again, setup_again, trailer_again}
use Rattle.file_writer.specs.ReadBack.{ReadAs, trailer_there}

-- ---- the steps, read and then written again, with the same bytes after them
module _ (l : List ℕ) (b : Bytes l) where
  steps_again : (p n : ℕ) → p + 16 * n ≤ length l → steps_bytes (steps_from l p n) ++ drop (p + 16 * n) l ≡ drop p l
  unfolding steps_bytes steps_from
  steps_again p zero h =
      let e : p + 16 * 0 ≡ p = omega arith in
      rw e
  steps_again p (suc n) h =
      let e : p + 16 * suc n ≡ p + 16 + 16 * n = omega arith in
      let r : 16 ≤ length (drop p l) = omega (arith, length-drop p l) in
      append_assoc (step_bytes (step_in l p)) (steps_bytes (steps_from l (p + 16) n)) (drop (p + 16 * suc n) l)
      ∙ rw (e, steps_again (p + 16) n (omega arith), step_there l p, ← drop-drop 16 p l) (step_again (drop p l) (bytes_left l p b) r)

  -- ---- a well-formed file
  module _ (e : well_formed l ≡ true) where
    abbrev setup : Setup
    setup = setup_in l (setup_place l)

    parts : Parts l
    parts = formed_parts l e

    trailer_same : trailer_bytes (count_of l) ≡ drop (trailer_place l) l
    trailer_same =
        let t = trailer_there l (omega (arith, parts.long)) in
        trailer_again (drop (trailer_place l) l) (bytes_left l (trailer_place l) b) (count_of l) (omega (arith, length-drop (trailer_place l) l, parts.long)) (sym t.0) (sym t.1 ∙ parts.right)

    steps_same : steps_bytes (steps_of l) ++ trailer_bytes (count_of l) ≡ drop (first_place l) l
    unfolding steps_of
    steps_same =
        let f : trailer_place l ≡ first_place l + 16 * count_of l = omega (arith, whole l parts) in
        let t : trailer_bytes (count_of l) ≡ drop (first_place l + 16 * count_of l) l = trailer_same ∙ ap (λ (p : ℕ). drop p l) f in
        rw t (steps_again (first_place l) (count_of l) (omega (arith, whole l parts)))

    setup_same : setup_bytes setup ++ drop (first_place l) l ≡ drop (setup_place l) l
    setup_same =
        let d : List ℕ = drop (setup_place l) l in
        let z : get_or d 3 0 ≡ 0 = get_or-drop (setup_place l) l 3 0 ∙ formed_spare l e in
        rw (setup_there l (setup_place l), ← drop-drop 48 (setup_place l) l) (setup_again d (bytes_left l (setup_place l) b) (omega (arith, length-drop (setup_place l) l, whole l parts)) z)

    -- Writing what was read from a file gives the same file.
    pub written_again : file_bytes (note_of l) setup (steps_of l) ≡ l
    unfolding file_bytes note_of
    written_again = rw (e, length_steps l, steps_same, setup_same) (take-append-drop (setup_place l) l)

-- "no other file of the same note has those parts"
pub only_file : (l note : List ℕ) (s : Setup) (xs : List Step) → Bytes l → ReadAs l note s xs → l ≡ file_bytes note s xs
unfolding contents_of
only_file l note s xs b r = ⊎_elim yes no (true_or_false (well_formed l))
  where
    yes : well_formed l ≡ true → l ≡ file_bytes note s xs
    yes e =
        let f : setup_in l (setup_place l) ≡ s = rw e at r.setup in
        sym (rw (r.note, f, r.steps) at (written_again l b e))

    no : well_formed l ≡ false → l ≡ file_bytes note s xs
    no e =
        let never = rw e at r.accepted in
        cc
