use Rattle.protocol.specs.Setup.{in_range}
use Rattle.setup.proofs.in_range.Goals as goal

pub returns : goal.returns
unfolding in_range
returns c =
    rw (
      c.between.ensures,
      c.between-2.ensures,
      c.between-3.ensures,
      c.between-4.ensures,
      c.between-5.ensures,
      c.between-6.ensures,
      c.volumes_fit.ensures,
      c.between-7.ensures,
    )
