-- A step is refused and changes nothing, or every question was answered "yes" and it goes by its kind.
use Rattle.std.specs.Prelude.{Bool, true, ◌≡◌, get_or}
use Rattle.protocol.specs.declared.records.Copy.{Copy}
use Rattle.protocol.specs.declared.records.Request.{Request}
use Rattle.protocol.specs.declared.setup.Setup.{Setup}
use Rattle.protocol.specs.declared.step.Step.{Step}
use Rattle.protocol.specs.declared.tables.Tables.{Tables}
use Rattle.protocol.specs.Tables.{no_copy, no_request}
use Rattle.protocol.specs.Sound.{sound, records_sound}
use Rattle.protocol.specs.Gate.{known, exists, timely, vacant, growable}
use Rattle.protocol.specs.World.{World, target}

-- questions 2 to 6 answered "yes"
pub record Passed (s : Setup) (t : Tables) (r : Request) (x : Step) : Type 0 where
  pub knows : known x ≡ true
  pub finds : exists s t x ≡ true
  pub times : timely t x ≡ true
  pub vacates : vacant t x ≡ true
  pub grows : growable s t r x ≡ true

-- every question answered "yes"
pub record Accepted (s : Setup) (t : Tables) (records : Bool) (r : Request) (x : Step) : Type 0 where
  pub sounds : sound s t records ≡ true
  pub passes : Passed s t r x

-- the records that a step looks at
abbrev pub copy_of : Setup → World → Step → Copy
copy_of s w x = get_or w.copies (target s w.tables x).copy no_copy

abbrev pub request_of : Setup → World → Step → Request
request_of s w x = get_or w.requests (target s w.tables x).client no_request

abbrev pub records_of : Setup → World → Bool
records_of s w = records_sound s w.copies w.requests
