-- 01, "Frame, run file and listing": where the parts of a run file are, and which files are well formed.
use Rattle.std.specs.Prelude.{ℕ, ◌+◌, ◌-◌, ◌*◌, Bool, not, ◌&&◌, ◌||◌, List, leb, eqb, length, get_or}
use Rattle.laws.specs.Loop.{all_from}
use Rattle.bytes_layout.specs.Number.{number_at}
use Rattle.protocol.specs.declared.step.Step.{Step}
use Rattle.protocol.specs.Setup.{between, in_range}
use Rattle.protocol.specs.Gate.{is_clock, is_write, uses_client, uses_object, uses_place}
use Rattle.protocol.specs.Saved.{uses_name, known_kind}
use Rattle.file_records.specs.Records.{setup_in, step_in}

-- "trailer of 8: step count"
abbrev pub count_of : List ℕ → ℕ
count_of l = number_at l (length l - 8) 4

-- "the distance from the file's end back to the setup"
abbrev pub distance_of : List ℕ → ℕ
distance_of l = number_at l (length l - 4) 4

-- Where the setup begins, after "a rider's note of any length"; where the first step record does, and where record k does.
abbrev pub setup_place : List ℕ → ℕ
setup_place l = length l - distance_of l

abbrev pub first_place : List ℕ → ℕ
first_place l = setup_place l + 48

abbrev pub place_of : ℕ → ℕ → ℕ
place_of first k = first + 16 * k

-- The byte after a setup's counts, which must be 0: "dash, volume and object counts, a 0".
abbrev pub reserved : List ℕ → ℕ → ℕ
reserved l p = get_or l (p + 3) 0

-- "unused fields 0". "Its shape asks nothing of an unknown kind or of that step's fields." 02, A7: "two new step kinds, 10 save and 11 return, with the
-- name in the place field". The shape allows any name.
unfoldable pub step_fits : Step → Bool
step_fits x =
    not (known_kind x)
    || (uses_client x || eqb x.client 0)
    && (uses_object x || eqb x.object 0)
    && (uses_place x || uses_name x || eqb x.place 0)
    && (is_clock x || eqb x.clock 0)
    && (is_write x || eqb x.value 0)

abbrev pub step_fits_at : List ℕ → ℕ → ℕ → Bool
step_fits_at l first k = step_fits (step_in l (place_of first k))

abbrev pub steps_fit : List ℕ → ℕ → ℕ → Bool
steps_fit l first n = all_from (step_fits_at l first) 0 n

-- "up to 4,000 steps"; "the distance .. 56 + 16 × count"; and the distance is within the file.
abbrev pub trailer_fits : ℕ → ℕ → ℕ → Bool
trailer_fits n count distance = leb count 4000 && eqb distance (56 + 16 * count) && leb distance n

-- "A run file, at most 65,536 bytes": it has room for a setup and a trailer, and the trailer fits.
unfoldable pub measured : List ℕ → Bool
measured l = between 56 65536 (length l) && trailer_fits (length l) (count_of l) (distance_of l)

-- The byte after the counts is 0 ("dash, volume and object counts, a 0"), the setup is in range, and all steps fit.
unfoldable pub contents_fit : List ℕ → Bool
contents_fit l = eqb (reserved l (setup_place l)) 0 && in_range (setup_in l (setup_place l)) && steps_fit l (first_place l) (count_of l)

-- "Run file shaped as above, its setup in range? 9."
unfoldable pub well_formed : List ℕ → Bool
well_formed l = measured l && contents_fit l
