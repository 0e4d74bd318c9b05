use Rattle.std.proofs.Common.{rules, subst}
use Rattle.std.proofs.KnownBytes.{Consumes-trans}
use Rattle.std.specs.Io.KnownBytes.{Consumes}
use Rattle.roadrun.proofs.Reading.{take_put_mid_more}
use Rattle.roadrun.proofs.input.read.Goals as goal

pub loop-n-preserved : goal.loop-n-preserved
loop-n-preserved g c =
    let part = take_put_mid_more _ _ _ _ _ c.loop-n.invariant.within c.in_ok-more.ensures.bound.0 in
    record {
      within = search rules;
      bytes = subst (Consumes _ _) part (Consumes-trans _ _ _ _ _ c.loop-n.invariant.bytes c.in_ok-more.ensures.bytes.0);
    }
