use native.Mathlib.Omega.{arith}
use mathlib.Core.Path.{sym, ◌∙◌}
use Rattle.file_writer.proofs.Laws.{file_reported, file_read, not_fitting, out_of_range}
use Rattle.file_writer.proofs.write.Goals as goal

pub returns-then-not-in_range : goal.returns-then-not-in_range
returns-then-not-in_range c = record { reports = search out_of_range; reads = λ z. absurd (omega arith) }

pub returns-then-not-file_fits : goal.returns-then-not-file_fits
returns-then-not-file_fits c = record { reports = search not_fitting; reads = λ z. absurd (omega arith) }

pub write_file-requires : goal.write_file-requires
write_file-requires c = record { setup_value = sym c.in_range.ensures ∙ c.if-not-in_range.false; out_value = sym c.file_fits.ensures ∙ c.if-not-file_fits.false }

pub returns : goal.returns
returns c = record { reports = search file_reported; reads = λ z. search file_read }
