-- 02, A5: "writes the file that the reader accepts, whose parts come back the same".
use Rattle.std.specs.Prelude.{ℕ, ◌+◌, ◌-◌, ◌*◌, ◌<◌, ◌≤◌, true, ◌≡◌, length, drop, IsOk, IfOk}
use Rattle.std.proofs.Common.{arith, ◌∙◌, take_at, drop-drop, get_or-drop}
use mathlib.Core.List.{List, [], ◌∷◌, ◌++◌, append_assoc}
use Rattle.std.proofs.Math.Path.{refl, sym, ap}
use Rattle.std.proofs.Math.Seq.{drop_at}
use borrow.Author.Tests.{le-leb, eq-eqb}
use Rattle.laws.specs.Lists.{All}
use Rattle.laws.specs.Loop.{all_each, all_of}
use Rattle.bytes_layout.specs.Number.{little_endian, number_at}
use Rattle.protocol.specs.declared.setup.Setup.{Setup}
use Rattle.protocol.specs.declared.step.Step.{Step}
use Rattle.protocol.specs.Setup.{in_range}
use Rattle.protocol.proofs.Gate.{asked}
use Rattle.file_records.specs.Records.{setup_in, step_in, no_step}
use Rattle.file_shape.specs.Shape.{count_of, distance_of, setup_place, first_place, reserved, step_fits, step_fits_at, measured, contents_fit, well_formed}
use Rattle.file_shape.specs.Places.{trailer_place}
use Rattle.file_reader.specs.File.{contents_of, note_of}
use Rattle.file_reader.specs.Steps.{steps_from, steps_of, from_at}
use Rattle.file_records.specs.Bytes.{setup_front, setup_bytes, step_bytes, steps_bytes, trailer_bytes, file_bytes, file_length, length_setup, length_step, length_steps, length_file}
use Rattle.file_records.specs.Round.{Widths, bytes_there, step_there, setup_there, step_back, setup_back, trailer_back}
use Rattle.file_writer.specs.File.{fits_at, all_fit, file_fits, write_refusal, fitting}

-- What the writer requires of a note, a setup and steps, for any output. The last two hold in every program: a setup has 28 volume bytes, and the
-- numbers of a step fit their widths.
pub record Writable (note : List ℕ) (s : Setup) (xs : List Step) : Type 0 where
  pub in_range_law : in_range s ≡ true
  pub few : length xs ≤ 4000
  pub fit : all_fit xs ≡ true
  pub short : file_length (length note) (length xs) ≤ 65536
  pub volumes : length s.volume ≡ 28
  pub widths : All Widths xs

-- What is written is "the file that the reader accepts, whose parts come back the same": the reader accepts file l and returns these parts.
pub record ReadAs (l n : List ℕ) (s : Setup) (xs : List Step) : Type 0 where
  pub accepted : IsOk (contents_of l)
  pub note : note_of l ≡ n
  pub setup : IfOk (contents_of l) (λ c. c.setup ≡ s)
  pub count : IfOk (contents_of l) (λ c. c.count ≡ length xs)
  pub steps : steps_of l ≡ xs

-- ---- the trailer's numbers, read from the bytes where it begins
pub trailer_there : (l : List ℕ) → 8 ≤ length l → (count_of l ≡ number_at (drop (trailer_place l) l) 0 4) × (distance_of l ≡ number_at (drop (trailer_place l) l) 4 4)
trailer_there l h =
    let p : ℕ = trailer_place l in
    let e : length l - 8 ≡ p + 0 = omega arith in
    let f : length l - 4 ≡ p + 4 = omega arith in
    (ap (λ (q : ℕ). number_at l q 4) e ∙ ap little_endian (bytes_there l p 0 4), ap (λ (q : ℕ). number_at l q 4) f ∙ ap little_endian (bytes_there l p 4 4))

-- ---- the steps, read from the first record on, with any bytes after them
steps_back : (l : List ℕ) (p : ℕ) (xs : List Step) (b : List ℕ) → All Widths xs → drop p l ≡ steps_bytes xs ++ b → steps_from l p (length xs) ≡ xs
unfolding steps_from steps_bytes All
steps_back l p [] b w e = refl
steps_back l p (x ∷ xs) b w e =
    let f : drop p l ≡ step_bytes x ++ (steps_bytes xs ++ b) = e ∙ append_assoc (step_bytes x) (steps_bytes xs) b in
    let g : drop (p + 16) l ≡ steps_bytes xs ++ b = sym (drop-drop 16 p l) ∙ rw f (drop_at (step_bytes x) (steps_bytes xs ++ b) 16 (length_step x)) in
    let i : step_in l p ≡ x = step_there l p ∙ rw f (step_back x (steps_bytes xs ++ b) w.0) in
    rw i (ap (◌∷◌ x) (steps_back l (p + 16) xs b w.1 g))

-- ---- the file of a note, a setup and steps that the writer accepts
module _ (note : List ℕ) (s : Setup) (xs : List Step) (f : Writable note s xs) where
  abbrev file : List ℕ
  file = file_bytes note s xs

  abbrev count : ℕ
  count = length xs

  long : length file ≡ file_length (length note) count
  long = length_file note s xs f.volumes

  -- The bytes from each part's beginning on.
  from_setup : drop (length note) file ≡ setup_bytes s ++ (steps_bytes xs ++ trailer_bytes count)
  unfolding file_bytes
  from_setup = drop_at note (setup_bytes s ++ (steps_bytes xs ++ trailer_bytes count)) (length note) refl

  from_steps : drop (length note + 48) file ≡ steps_bytes xs ++ trailer_bytes count
  from_steps =
      sym (drop-drop 48 (length note) file) ∙ rw from_setup (drop_at (setup_bytes s) (steps_bytes xs ++ trailer_bytes count) 48 (length_setup s f.volumes))

  from_trailer : drop (trailer_place file) file ≡ trailer_bytes count
  from_trailer =
      let e : trailer_place file ≡ length note + 48 + 16 * count = omega (arith, long) in
      rw e (sym (drop-drop (16 * count) (length note + 48) file) ∙ rw from_steps (drop_at (steps_bytes xs) (trailer_bytes count) (16 * count) (length_steps xs)))

  -- The trailer's numbers, which give the setup's place.
  trailer : (count_of file ≡ count) × (distance_of file ≡ 56 + 16 * count)
  trailer =
      let t = trailer_there file (omega (arith, long)) in
      let r = trailer_back count f.few in
      (t.0 ∙ rw from_trailer r.0, t.1 ∙ rw from_trailer r.1)

  counted : count_of file ≡ count
  counted = trailer.0

  distant : distance_of file ≡ 56 + 16 * count
  distant = trailer.1

  placed : setup_place file ≡ length note
  placed = omega (arith, long, distant)

  -- The setup and the steps are the ones written.
  setup_same : setup_in file (setup_place file) ≡ s
  setup_same = ap (setup_in file) placed ∙ setup_there file (length note) ∙ rw from_setup (setup_back s (steps_bytes xs ++ trailer_bytes count) f.in_range_law f.volumes)

  steps_same : steps_of file ≡ xs
  unfolding steps_of
  steps_same =
      rw (counted, placed) (steps_back file (length note + 48) xs (trailer_bytes count) f.widths from_steps)

  spare : reserved file (setup_place file) ≡ 0
  unfolding setup_front
  spare = ap (λ (p : ℕ). reserved file p) placed ∙ sym (get_or-drop (length note) file 3 0) ∙ rw from_setup refl

  -- The file passes the reader's tests.
  measured_yes : measured file ≡ true
  unfolding measured
  measured_yes =
      rw (
        counted,
        distant,
        long,
        le-leb 56 (file_length (length note) count) (omega arith),
        le-leb _ _ f.short,
        le-leb _ _ f.few,
        eq-eqb (56 + 16 * count) _ refl,
        le-leb (56 + 16 * count) (file_length (length note) count) (omega arith),
      )

  step_fit : (k : ℕ) → k < count_of file → step_fits_at file (first_place file) k ≡ true
  unfolding steps_of all_fit
  step_fit k h =
      let e = from_at file (first_place file) (count_of file) k no_step h in
      sym (ap step_fits e) ∙ ap (λ (l : List Step). fits_at l k) steps_same ∙ all_each (fits_at xs) count f.fit k (omega (arith, counted))

  contents_yes : contents_fit file ≡ true
  unfolding contents_fit
  contents_yes = rw (spare, setup_same, f.in_range_law) (all_of (step_fits_at file (first_place file)) (count_of file) step_fit)

  formed : well_formed file ≡ true
  unfolding well_formed
  formed = rw (measured_yes, contents_yes)

  note_same : note_of file ≡ note
  unfolding note_of file_bytes
  note_same = rw (formed, placed) (take_at note (setup_bytes s ++ (steps_bytes xs ++ trailer_bytes count)) (length note) refl)

  -- "the file that the reader accepts, whose parts come back the same"
  pub reads_back : ReadAs file note s xs
  unfolding contents_of
  reads_back = record { accepted = rw formed; note = note_same; setup = rw formed setup_same; count = rw formed counted; steps = steps_same }

-- The same for a call that is not refused. The premises about the volume bytes and the widths hold in every program.
pub not_refused : (note : List ℕ) (s : Setup) (xs : List Step) (room : ℕ) → length s.volume ≡ 28 → All Widths xs → write_refusal (length note) s xs room ≡ 0
    → ReadAs (file_bytes note s xs) note s xs
unfolding write_refusal
not_refused note s xs room v w e =
    let range = asked (in_range s) 6 _ e in
    let f = fitting (length note) xs room (asked (file_fits (length note) xs room) 9 0 range.1).0 in
    reads_back note s xs (record { in_range_law = range.0; few = f.few; fit = f.fit; short = f.short; volumes = v; widths = w })
