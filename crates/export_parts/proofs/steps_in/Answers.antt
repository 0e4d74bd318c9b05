use Rattle.laws.specs.Tabulate.{tabulate}
use Rattle.export_parts.proofs.Laws.{room_there, reading_again, reading_end}
use Rattle.export_parts.proofs.steps_in.Goals as goal

pub loop-k-init : goal.loop-k-init
unfolding tabulate
loop-k-init c = c.new-steps.ensures

pub push-requires : goal.push-requires
push-requires c = search room_there

pub loop-k-preserved : goal.loop-k-preserved
loop-k-preserved c = search reading_again

pub returns : goal.returns
returns c = search reading_end
