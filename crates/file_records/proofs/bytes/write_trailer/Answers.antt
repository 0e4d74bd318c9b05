use Rattle.file_records.proofs.BytesLaws.{trailer_stored}
use Rattle.file_records.proofs.bytes.write_trailer.Goals as goal

pub returns : goal.returns
returns c = trailer_stored _ _ _ _ _ c.write_u32.ensures c.write_u32-2.ensures
