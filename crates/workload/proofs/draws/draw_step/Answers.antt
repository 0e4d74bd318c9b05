use Rattle.workload.proofs.DrawsLaws.{drawn_by, clients_counted, objects_counted}
use Rattle.workload.proofs.draws.draw_step.Goals as goal

pub remainder-requires : goal.remainder-requires
remainder-requires c = let all = clients_counted _ c.requires.setup_value in record { le_count = all.0; count_bound = all.1 }

pub remainder-requires-2 : goal.remainder-requires-2
remainder-requires-2 c = let all = objects_counted _ c.requires.setup_value in record { le_count = all.0; count_bound = all.1 }

pub returns : goal.returns
returns c =
    drawn_by _ _ _ _ _ _ c.next-first.ensures c.next-second.ensures
    c.next-third.ensures c.next-fourth.ensures c.next-fifth.ensures _ _ _ _ _ _ _ c.remainder.ensures
    c.remainder-2.ensures c.remainder-3.ensures (rw c.from.ensures at c.only_used-step.ensures) c.total_after.ensures
