-- A workload's file from a lent setup: bytes that are not a setup are refused with 7, and a written file reads back the same.
use Rattle.std.specs.Prelude.{ℕ, false, List, ◌≡◌, refl, length, Result, Ok, Err}
use Rattle.std.proofs.Common.{eq-eqb}
use Rattle.laws.specs.Choice.{not_both}
use Rattle.bytes_layout.proofs.Report.{number_some}
use Rattle.protocol.specs.declared.refusal.Refusal.{Refusal}
use Rattle.protocol.specs.declared.setup.Setup.{Setup}
use Rattle.protocol.specs.Refusals.{number_of}
use Rattle.file_records.specs.Bytes.{file_bytes}
use Rattle.file_writer.specs.ReadBack.{ReadAs}
use Rattle.workload.specs.Workload.{workload}
use Rattle.gevtsomi.specs.Calls.{workload_refusal}
use Rattle.workload.specs.Laws.{workload_read}
use Rattle.export_parts.specs.Lent.{setup_whole, setup_lent}
use Rattle.export_parts.specs.Laws.{setup_out, volumes_lent}

module _ (setup : List ℕ) (count room : ℕ) where
  pub workload_refused : (n : ℕ) → setup_whole setup ≡ false → workload_refusal n (setup_lent setup) count room ≡ 7
  workload_refused n e = rw (setup_out setup e)

-- what a workload's file from these parts reads back as
abbrev pub WorkloadReadFrom : List ℕ → ℕ → ℕ → Result Setup Refusal → Type 0
WorkloadReadFrom note seed count (Ok s) = ReadAs (file_bytes note s (workload s seed count)) note s (workload s seed count)
WorkloadReadFrom note seed count (Err r) = ⊥

pub lent_workload_read : (setup : List ℕ) (count room : ℕ) (note : List ℕ) (seed : ℕ) → workload_refusal (length note) (setup_lent setup) count room ≡ 0
    → WorkloadReadFrom note seed count (setup_lent setup)
lent_workload_read setup count room note seed g = by_setup (setup_lent setup) refl g
  where
    by_setup : (s : Result Setup Refusal) → setup_lent setup ≡ s → workload_refusal (length note) s count room ≡ 0 → WorkloadReadFrom note seed count s
    by_setup (Err r) e h = not_both (eq-eqb (number_of r) 0 h) (number_some r)
    by_setup (Ok s) e h = workload_read note s seed count room (volumes_lent setup s e) h
