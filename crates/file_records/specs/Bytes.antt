-- 01, "Frame, run file and listing": the bytes of a run file, from its note, setup and steps.
use Rattle.std.specs.Prelude.{ℕ, ◌+◌, ◌*◌, List, [], ◌∷◌, ◌++◌, ◌≡◌, refl, length}
use Rattle.std.proofs.Common.{arith, append_assoc, append-nil, sym, length-append}
use Rattle.bytes_layout.specs.Number.{bytes_of, four_bytes}
use Rattle.bytes_layout.proofs.Number.{length_bytes}
use Rattle.protocol.specs.declared.setup.Setup.{Setup}
use Rattle.protocol.specs.declared.step.Step.{Step}

-- "setup (48 bytes: dash, volume and object counts, a 0, tv, t, m, ..)"
unfoldable pub setup_front : Setup → List ℕ
setup_front s = four_bytes s.clients s.volumes s.objects 0 ++ (bytes_of 4 s.tv ++ (bytes_of 4 s.t ++ bytes_of 4 s.m))

-- "32 volume bytes, unused ones 0"; 02, A6: "d in setup, 1 to 65,535, in the last four volume bytes"
abbrev pub setup_bytes : Setup → List ℕ
setup_bytes s = setup_front s ++ (s.volume ++ bytes_of 4 s.delay)

-- "steps of 16 bytes (kind, dash, object, place; clock in 4; value in 8; unused fields 0)"
unfoldable pub step_bytes : Step → List ℕ
step_bytes x = four_bytes x.kind x.client x.object x.place ++ (bytes_of 4 x.clock ++ bytes_of 8 x.value)

unfoldable pub steps_bytes : List Step → List ℕ
steps_bytes [] = []
steps_bytes (x ∷ xs) = step_bytes x ++ steps_bytes xs

pub steps_more : (xs : List Step) (y : Step) → steps_bytes (xs ++ (y ∷ [])) ≡ steps_bytes xs ++ step_bytes y
unfolding steps_bytes
steps_more [] y = append-nil (step_bytes y)
steps_more (x ∷ xs) y = rw (steps_more xs y) (sym (append_assoc (step_bytes x) (steps_bytes xs) (step_bytes y)))

-- "trailer of 8: step count, then the distance from the file's end back to the setup, 56 + 16 × count"
unfoldable pub trailer_bytes : ℕ → List ℕ
trailer_bytes n = bytes_of 4 n ++ bytes_of 4 (56 + 16 * n)

-- The whole file: "a rider's note of any length, setup .., up to 4,000 steps .., trailer of 8".
unfoldable pub file_bytes : List ℕ → Setup → List Step → List ℕ
file_bytes note s xs = note ++ (setup_bytes s ++ (steps_bytes xs ++ trailer_bytes (length xs)))

-- The file's length, with a note of n bytes and `count` steps.
abbrev pub file_length : ℕ → ℕ → ℕ
file_length n count = n + (56 + 16 * count)

-- ---- lengths of the parts
pub length_front : (s : Setup) → length (setup_front s) ≡ 16
unfolding setup_front bytes_of
length_front s = refl

pub length_setup : (s : Setup) → length s.volume ≡ 28 → length (setup_bytes s) ≡ 48
length_setup s h =
    omega (
      arith,
      length-append (setup_front s) (s.volume ++ bytes_of 4 s.delay),
      length-append s.volume (bytes_of 4 s.delay),
      length_front s,
      length_bytes 4 s.delay,
      h,
    )

pub length_step : (x : Step) → length (step_bytes x) ≡ 16
unfolding step_bytes bytes_of
length_step x = refl

pub length_steps : (xs : List Step) → length (steps_bytes xs) ≡ 16 * length xs
unfolding steps_bytes
length_steps [] = refl
length_steps (x ∷ xs) = omega (arith, length-append (step_bytes x) (steps_bytes xs), length_step x, length_steps xs)

pub length_trailer : (n : ℕ) → length (trailer_bytes n) ≡ 8
unfolding trailer_bytes bytes_of
length_trailer n = refl

pub length_file : (note : List ℕ) (s : Setup) (xs : List Step) → length s.volume ≡ 28 → length (file_bytes note s xs) ≡ file_length (length note) (length xs)
unfolding file_bytes
length_file note s xs h =
    omega (
      arith,
      length-append note (setup_bytes s ++ (steps_bytes xs ++ trailer_bytes (length xs))),
      length-append (setup_bytes s) (steps_bytes xs ++ trailer_bytes (length xs)),
      length-append (steps_bytes xs) (trailer_bytes (length xs)),
      length_setup s h,
      length_steps xs,
      length_trailer (length xs),
    )
