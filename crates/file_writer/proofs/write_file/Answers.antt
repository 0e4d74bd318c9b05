use borrow.Author.Rules.{rules}
use native.Mathlib.Omega.{arith}
use Rattle.file_writer.proofs.Laws.{few_steps, note_fits, setup_fits, steps_fit_law, trailer_fits_law, file_written}
use Rattle.file_writer.proofs.write_file.Goals as goal

pub write_bytes-at-requires : goal.write_bytes-at-requires
write_bytes-at-requires c = search note_fits

pub write_setup-first-requires : goal.write_setup-first-requires
write_setup-first-requires c = search (setup_fits, rules)

pub write_steps-end-requires : goal.write_steps-end-requires
write_steps-end-requires c = search steps_fit_law

pub overflow_cast-steps : goal.overflow_cast-steps
overflow_cast-steps c = omega (arith, few_steps _ _ _ c.requires.out_value)

pub write_trailer-requires : goal.write_trailer-requires
write_trailer-requires c = record { at_in_bounds = search trailer_fits_law; count_bound = search few_steps }

pub returns : goal.returns
returns c = record { written = search file_written; widths = (search rules, search rules) }
