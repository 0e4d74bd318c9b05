use Rattle.workload.proofs.DrawsLaws.{next_by}
use Rattle.workload.proofs.draws.next.Goals as goal

pub returns : goal.returns
returns c = next_by _ _ _ c.product.ensures c.wrapping_add_u32.ensures.value
