use Rattle.frame_places.proofs.Laws.{numbers_stored}
use Rattle.frame_places.proofs.write_numbers.Goals as goal

pub returns : goal.returns
returns c =
    numbers_stored _ _ _ _ _ _ _ c.write_u32.ensures c.write_u32-2.ensures
    c.write_u32-3.ensures c.write_u32-4.ensures c.write_u32-5.ensures
