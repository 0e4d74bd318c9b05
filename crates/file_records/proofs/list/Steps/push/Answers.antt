use Rattle.file_records.proofs.list.Steps.push.Goals as goal
use Rattle.file_records.proofs.RoomLaws.{one_more}

pub invariant_of-self : goal.invariant_of-self
invariant_of-self c = one_more c.self.inside.len c.self.inside.items c.args.step c.self.invariant (rw c.self.view_is c.requires)
