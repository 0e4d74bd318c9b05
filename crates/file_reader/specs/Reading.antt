-- What a loop over an accepted file's steps can rely on.
use Rattle.std.specs.Prelude.{ℕ, ◌<◌, true, false, List, get_or, Ok, Err}
use Rattle.std.proofs.Math.Logic.{⊎_elim}
use Rattle.std.proofs.Math.Path.{◌≡◌}
use Rattle.laws.specs.Choice.{true_or_false}
use Rattle.protocol.specs.declared.refusal.Refusal.{Refusal}
use Rattle.protocol.specs.declared.refusal.Refusal.TheVariants as no
use Rattle.protocol.specs.declared.step.Step.{Step}
use Rattle.protocol.specs.Setup.{in_range}
use Rattle.file_shape.specs.Shape.{count_of, first_place, well_formed}
use Rattle.file_shape.specs.Parts.{Parts, formed_parts, formed_in_range}
use Rattle.file_shape.specs.Places.{place_before, place_first}
use Rattle.file_reader.specs.declared.Contents.{Contents}
use Rattle.file_reader.specs.File.{setup_of, step_at, contents, contents_of}
use Rattle.file_reader.specs.Steps.{steps_of, step_is}

-- Facts about an accepted file: the lengths of its parts, a setup in range, the number of steps, and where the running place starts.
pub record Accepted (l : List ℕ) (r : Contents) : Type 0 where
  pub parts : Parts l
  pub in_range_law : in_range r.setup ≡ true
  pub counted : r.count ≡ count_of l
  pub starts : r.first ≡ place_before l 0

-- The reader refuses file l.
pub unformed : (l : List ℕ) (n : Refusal) → Err n ≡ contents_of l → (well_formed l ≡ false) × (n ≡ no.File)
unfolding contents_of
unformed l n e = ⊎_elim (λ t. absurd (never t)) (λ t. (t, named t)) (true_or_false (well_formed l))
  where
    never : well_formed l ≡ true → ⊥
    never t =
        let f = rw t at e in
        cc

    named : well_formed l ≡ false → n ≡ no.File
    named t =
        let f = rw t at e in
        cc

-- The reader accepts file l and returns r.
module _ (l : List ℕ) (r : Contents) (e : Ok r ≡ contents_of l) where
  pub formed : well_formed l ≡ true
  unfolding contents_of
  formed = ⊎_elim (λ t. t) (λ t. absurd (never t)) (true_or_false (well_formed l))
    where
      never : well_formed l ≡ false → ⊥
      never t =
          let f = rw t at e in
          cc

  pub contents_read : r ≡ contents (setup_of l) (count_of l) (first_place l)
  unfolding contents_of
  contents_read =
      let f = rw formed at e in
      cc

  pub accepted : Accepted l r
  accepted = record { parts = formed_parts l formed; in_range_law = rw contents_read (formed_in_range l formed); counted = rw contents_read; starts = rw (contents_read, place_first l) }

  -- Reading at the running place before record k returns step k.
  pub step_read : (place k : ℕ) (d : Step) → place ≡ place_before l k → k < r.count → step_at l place ≡ get_or (steps_of l) k d
  step_read place k d f h = step_is l place k f accepted.parts (rw accepted.counted at h) d
