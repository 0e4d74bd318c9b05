-- Lemmas cited by the function proofs: each derives a postcondition from the facts of one path.
use Prim.Native.Nat.{ℕ, ◌+◌, ◌≤◌, ◌<◌}
use native.Mathlib.Omega.{arith}
use mathlib.Core.Bool.{Bool, true, false}
use mathlib.Core.List.{List}
use mathlib.Core.Path.{◌≡◌, sym, ◌∙◌}
use lib.ListN.{length, take}
use lib.Seq.{length-take-le}
use borrow.Author.Tests.{le-leb, lt-leb}
use Rattle.std.specs.Prelude.{Ok, Err}
use Rattle.protocol.specs.declared.refusal.Refusal.TheVariants.{File}
use Rattle.protocol.specs.declared.setup.Setup.{Setup}
use Rattle.protocol.specs.declared.step.Step.{Step}
use Rattle.file_records.specs.Records.{setup_in, step_in, no_step}
use Rattle.file_shape.specs.Shape.{count_of, setup_place, well_formed}
use Rattle.file_shape.specs.Parts.{Parts, formed_parts}
use Rattle.file_reader.specs.File.{step_at, contents, contents_of, note_of}

module _ (l : List ℕ) where
  pub formed_by : (w : Bool) → w ≡ well_formed l → w ≡ true → Parts l
  formed_by w e h = formed_parts l (sym e ∙ h)

  pub note_long : (p : ℕ) → p ≡ setup_place l → p ≡ length (take p l)
  note_long p e = sym (length-take-le p l (omega arith))

  module _ (w : Bool) (e : w ≡ well_formed l) where
    pub setup_there : (p : ℕ) → w ≡ true → p ≡ setup_place l → p + 48 ≤ length l
    setup_there p h f =
        let k = formed_by w e h in
        omega arith

    pub read_yes : (p c : ℕ) (s : Setup) → w ≡ true → p ≡ setup_place l → s ≡ setup_in l p → c ≡ count_of l → Ok (contents s c (p + 48)) ≡ contents_of l
    unfolding contents_of
    read_yes p c s h f g k = rw (← e, h, g, k, f)

    pub read_no : w ≡ false → Err File ≡ contents_of l
    unfolding contents_of
    read_no h = rw (← e, h)

    pub note_yes : (p : ℕ) → w ≡ true → p ≡ setup_place l → take p l ≡ note_of l
    unfolding note_of
    note_yes p h f = rw (← e, h, f)

    pub note_no : w ≡ false → take 0 l ≡ note_of l
    unfolding note_of
    note_no h = rw (← e, h)

module _ (l : List ℕ) (p : ℕ) (x : Step) where
  pub no_record : length l < p + 16 → x ≡ no_step → x ≡ step_at l p
  unfolding step_at
  no_record h e = rw (lt-leb _ _ h) e

  pub in_file : p + 16 ≤ length l → x ≡ step_in l p → x ≡ step_at l p
  unfolding step_at
  in_file h e = rw (le-leb _ _ h) e
