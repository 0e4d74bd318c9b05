-- 01, "Frame, run file and listing": the contents of a run file, from its bytes.
use Rattle.std.specs.Prelude.{ℕ, ◌+◌, cond, List, [], leb, length, take, Result, Ok, Err}
use Rattle.protocol.specs.declared.refusal.Refusal.{Refusal}
use Rattle.protocol.specs.declared.refusal.Refusal.TheVariants.{File}
use Rattle.protocol.specs.declared.setup.Setup.{Setup}
use Rattle.protocol.specs.declared.step.Step.{Step}
use Rattle.file_records.specs.Records.{setup_in, step_in, no_step}
use Rattle.file_shape.specs.Shape.{count_of, setup_place, first_place, well_formed}
use Rattle.file_reader.specs.declared.Contents.{Contents}

abbrev pub contents : Setup → ℕ → ℕ → Contents
contents s count first = record { setup = s; count = count; first = first }

-- The setup of a file.
abbrev pub setup_of : List ℕ → Setup
setup_of l = setup_in l (setup_place l)

-- The contents of a file, if it is a "Run file shaped as above, its setup in range"; for any other, "its setup in range? 9."
unfoldable pub contents_of : List ℕ → Result Contents Refusal
contents_of l = cond (well_formed l) (Ok (contents (setup_of l) (count_of l) (first_place l))) (Err File)

-- "The reader hands back the note as that part of the caller's file": the bytes before the setup, "a rider's note of any length"; none for a refused file.
unfoldable pub note_of : List ℕ → List ℕ
note_of l = cond (well_formed l) (take (setup_place l) l) []

-- The step whose record begins at p, or the step of zeros if the file has no record there.
unfoldable pub step_at : List ℕ → ℕ → Step
step_at l p = cond (leb (p + 16) (length l)) (step_in l p) no_step
