use Rattle.std.proofs.Common.{rules, sym, subst, length-take-le}
use Rattle.std.specs.Io.KnownBytes.{Appends}
use Rattle.roadrun.proofs.Laws.{part_there, part_is, printed_all}
use Rattle.roadrun.proofs.list.Goals as goal

pub slice_bounds-out-end : goal.slice_bounds-out-end
slice_bounds-out-end g c = part_there _ _ _ _ (search rules) c.print-m.ensures

pub slice_bounds-write_all-end : goal.slice_bounds-write_all-end
slice_bounds-write_all-end g c = sym (length-take-le _ _ (part_there _ _ _ _ (search rules) c.print-m.ensures))

pub returns-in-Ok-write_all-clause-whole : goal.returns-in-Ok-write_all-clause-whole
returns-in-Ok-write_all-clause-whole g c =
    let done = subst (Appends _ _) (part_is _ _ _ _ (search rules) c.print-m.ensures) c.in-Ok-write_all.ensures.bytes in
    printed_all _ _ _ _ _ _ (search rules) c.in-Ok.ensures.within c.in-Ok.ensures.bytes c.in-Ok.ensures.end done
