use Rattle.std.proofs.Common.{rules}
use Rattle.workload.proofs.Laws.{drawing_none, total_fits, room_there, drawing_again, drawing_end}
use Rattle.workload.proofs.drawn_steps.Goals as goal

pub loop-k-init : goal.loop-k-init
loop-k-init c = search drawing_none

pub draw_step-drawn-requires : goal.draw_step-drawn-requires
draw_step-drawn-requires c = record { setup_value = search rules; total_bound = search total_fits }

pub push-requires : goal.push-requires
push-requires c = search room_there

pub loop-k-preserved : goal.loop-k-preserved
loop-k-preserved c = search drawing_again

pub returns : goal.returns
returns c = search drawing_end
