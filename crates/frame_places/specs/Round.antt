-- Laying out fields and reading them are inverse to each other.
use Rattle.std.specs.Prelude.{◌<◌}
use Rattle.bytes_layout.specs.Number.{limit}
use Rattle.message_fields.specs.declared.Fields.{Fields}

-- Each number fits its width, as in every message that a program can build.
pub record FieldsFit (f : Fields) : Type 0 where
  pub client : f.client < 256
  pub object : f.object < 256
  pub number : f.number < limit 4
  pub volume_expiry : f.volume_expiry < limit 4
  pub epoch : f.epoch < limit 4
  pub version : f.version < limit 4
  pub object_expiry : f.object_expiry < limit 4
  pub value : f.value < limit 8
