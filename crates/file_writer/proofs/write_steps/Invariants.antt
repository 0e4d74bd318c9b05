use Rattle.file_writer.proofs.Laws.{Written_first}
use Rattle.file_writer.proofs.write_steps.Given as goal

abbrev pub invariant-loop-step : goal.invariant-loop-step
invariant-loop-step l = Written_first l.steps l.initial.out l.out l.at l.place l.step-index
