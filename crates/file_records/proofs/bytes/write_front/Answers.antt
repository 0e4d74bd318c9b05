use native.Mathlib.Omega.{arith}
use Rattle.protocol.proofs.Ranges.{ranges}
use Rattle.file_records.proofs.BytesLaws.{front_stored}
use Rattle.file_records.proofs.bytes.write_front.Goals as goal

pub overflow_cast-setup : goal.overflow_cast-setup
overflow_cast-setup c = omega (arith, (ranges _ c.requires.setup_value).clients.1)

pub overflow_cast-setup-2 : goal.overflow_cast-setup-2
overflow_cast-setup-2 c = omega (arith, (ranges _ c.requires.setup_value).volumes.1)

pub overflow_cast-setup-3 : goal.overflow_cast-setup-3
overflow_cast-setup-3 c = omega (arith, (ranges _ c.requires.setup_value).objects.1)

pub returns : goal.returns
returns c = search front_stored
