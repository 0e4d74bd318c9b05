-- 02, A5: what the run file writer checks before it writes.
use Rattle.std.specs.Prelude.{ℕ, ◌≤◌, Bool, true, ◌&&◌, List, ◌≡◌, leb, length, get_or}
use Rattle.std.proofs.Common.{leb-true}
use Rattle.laws.specs.Choice.{and-true}
use Rattle.laws.specs.Loop.{all_from}
use Rattle.protocol.specs.declared.setup.Setup.{Setup}
use Rattle.protocol.specs.declared.step.Step.{Step}
use Rattle.protocol.specs.Setup.{in_range}
use Rattle.protocol.specs.Gate.{or_refuse}
use Rattle.file_records.specs.Records.{no_step}
use Rattle.file_shape.specs.Shape.{step_fits}
use Rattle.file_records.specs.Bytes.{file_length}

-- "10 when more than 4,000 steps are wanted, .. the file would pass 65,536 bytes, or the output is too short": true if none of this holds, for a note
-- of n bytes, `count` steps and an output of `room` bytes.
unfoldable pub sizes_fit : ℕ → ℕ → ℕ → Bool
sizes_fit n count room = leb count 4000 && leb (file_length n count) 65536 && leb (file_length n count) room

-- "a step of a known kind has an unused field not 0": true if step k has none.
abbrev pub fits_at : List Step → ℕ → Bool
fits_at xs k = step_fits (get_or xs k no_step)

-- No "step of a known kind has an unused field not 0".
unfoldable pub all_fit : List Step → Bool
all_fit xs = all_from (fits_at xs) 0 (length xs)

unfoldable pub file_fits : ℕ → List Step → ℕ → Bool
file_fits n xs room = sizes_fit n (length xs) room && all_fit xs

-- The refusal, or 0: 7 for a setup out of range, and 10 "after 01's setup question".
unfoldable pub write_refusal : ℕ → Setup → List Step → ℕ → ℕ
write_refusal n s xs room = or_refuse (in_range s) 7 (or_refuse (file_fits n xs room) 10 0)

-- ---- what `file_fits` guarantees
pub record Fitting (n : ℕ) (xs : List Step) (room : ℕ) : Type 0 where
  pub few : length xs ≤ 4000
  pub short : file_length n (length xs) ≤ 65536
  pub room_there : file_length n (length xs) ≤ room
  pub fit : all_fit xs ≡ true

pub fitting : (n : ℕ) (xs : List Step) (room : ℕ) → file_fits n xs room ≡ true → Fitting n xs room
unfolding file_fits sizes_fit
fitting n xs room e =
    let c = and-true (sizes_fit n (length xs) room) (all_fit xs) e in
    let b = and-true _ _ c.0 in
    let a = and-true _ _ b.0 in
    record { few = leb-true _ _ a.0; short = leb-true _ _ a.1; room_there = leb-true _ _ b.1; fit = c.1 }
