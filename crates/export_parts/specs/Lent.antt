-- 02, A5: the setup and the steps of a run file to write, from bytes that a caller lends.
use Rattle.std.specs.Prelude.{ℕ, ◌*◌, ◌/◌, ◌%◌, Bool, cond, ◌&&◌, List, [], leb, eqb, length, Result, Ok, Err}
use Rattle.laws.specs.Tabulate.{tabulate}
use Rattle.protocol.specs.declared.refusal.Refusal.{Refusal}
use Rattle.protocol.specs.declared.refusal.Refusal.TheVariants as no
use Rattle.protocol.specs.Refusals.{number_of}
use Rattle.protocol.specs.Setup.{in_range}
use Rattle.protocol.specs.declared.setup.Setup.{Setup}
use Rattle.protocol.specs.declared.step.Step.{Step}
use Rattle.file_records.specs.Records.{setup_in, step_in}
use Rattle.file_shape.specs.Shape.{reserved}
use Rattle.file_records.specs.Bytes.{file_bytes}
use Rattle.file_writer.specs.File.{write_refusal}

-- There are 48 bytes, and the byte after the counts is 0.
abbrev pub setup_whole : List ℕ → Bool
setup_whole l = eqb (length l) 48 && eqb (reserved l 0) 0

-- The setup in these bytes, or the refusal 7 if they are not a setup.
unfoldable pub setup_lent : List ℕ → Result Setup Refusal
setup_lent l = cond (setup_whole l) (Ok (setup_in l 0)) (Err no.Setup)

-- The step in record k.
abbrev pub step_lent : List ℕ → ℕ → Step
step_lent l k = step_in l (16 * k)

-- All records are whole, and there are at most 4,000.
abbrev pub records_whole : List ℕ → Bool
records_whole l = eqb (length l % 16) 0 && leb (length l) 64000

-- The steps in these records, or the refusal 10 if they are not records.
unfoldable pub steps_lent : List ℕ → Result (List Step) Refusal
steps_lent l = cond (records_whole l) (Ok (tabulate (step_lent l) 0 (length l / 16))) (Err no.Parts)

-- The refusal of the call that writes a file of lent parts, or 0: that of the setup, then that of the steps, then that of the writer.
abbrev pub lent_refusal : ℕ → Result Setup Refusal → Result (List Step) Refusal → ℕ → ℕ
lent_refusal n (Err r) y room = number_of r
lent_refusal n (Ok s) (Err r) room = cond (in_range s) (number_of r) (number_of no.Setup)
lent_refusal n (Ok s) (Ok xs) room = write_refusal n s xs room

-- The file of lent parts; empty where there is none.
abbrev pub lent_file : List ℕ → Result Setup Refusal → Result (List Step) Refusal → List ℕ
lent_file note (Err r) y = []
lent_file note (Ok s) (Err r) = []
lent_file note (Ok s) (Ok xs) = file_bytes note s xs
