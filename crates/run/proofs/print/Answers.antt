use Rattle.run.proofs.Laws.{print_fits, print_written}
use Rattle.run.proofs.print.Goals as goal

pub run_steps-requires : goal.run_steps-requires
run_steps-requires c = record {
  c_value = c.requires.c_value;
  count_in_bounds = print_fits _ _ c.requires.c_value _ _ _ c.write_header-at.ensures c.requires.in_bounds;
}

pub returns : goal.returns
returns c = search print_written
