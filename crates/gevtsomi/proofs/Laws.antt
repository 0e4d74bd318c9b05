-- What the caller gets, derived from the call's report.
use Prim.Native.Nat.{ℕ}
use mathlib.Core.Bool.{Bool, true, false, cond}
use mathlib.Core.List.{List}
use mathlib.Core.Path.{◌≡◌, refl, ap, ◌∙◌}
use lib.Dec.{eqb}
use lib.ListN.{length}
use Rattle.std.specs.Prelude.{Option, Result, Ok, Err}
use Rattle.protocol.specs.declared.refusal.Refusal.{Refusal}
use Rattle.protocol.specs.declared.refusal.Refusal.TheVariants as no
use Rattle.protocol.specs.declared.setup.Setup.{Setup}
use Rattle.protocol.specs.declared.step.Step.{Step}
use Rattle.protocol.specs.Refusals.{refused_by}
use Rattle.protocol.specs.Setup.{in_range}
use Rattle.bytes_layout.proofs.Report.{number_some, none_written}
use Rattle.bytes_layout.specs.Report.{report_number, report_of, Reports}
use Rattle.file_records.specs.Bytes.{file_bytes}
use Rattle.export_parts.specs.Laws.{outside_refused}
use Rattle.export_parts.specs.Lent.{lent_refusal, lent_file}
use Rattle.file_writer.specs.File.{write_refusal}
use Rattle.workload.specs.Workload.{workload, file_refusal}
use Rattle.promises.specs.declared.reasons.Reason.{Reason}
use Rattle.reason.specs.Explained.{explanation_of}
use Rattle.gevtsomi.specs.Calls.{length_after, Writes, workload_refusal, workload_file, reason_after, event_after, TellsWhy}

-- a is the report; r is the number and m the length that the caller gets.
module _ (before after : List ℕ) (n : ℕ) (a : Result ℕ Refusal) (r m : ℕ) (f : r ≡ report_number a) (g : m ≡ length_after a n) where
  pub told_all : (refusal : ℕ) (b : List ℕ) → Reports refusal b before after a → Writes refusal b before after n m r
  told_all refusal b d = record { number = f ∙ d.number; written = g ∙ told a d.answer; bytes = d.bytes }
    where
      told : (x : Result ℕ Refusal) → report_of refusal (length b) x → length_after x n ≡ cond (eqb refusal 0) (length b) n
      told (Ok k) e = rw (e.0, e.1)
      told (Err k) e = rw (e, number_some k)

-- ---- a call whose setup is out of range
pub outside_told : (note before : List ℕ) (s : Result Setup Refusal) (x : Result (List Step) Refusal) (t : Setup) → Ok t ≡ s → in_range t ≡ false
    → Reports (lent_refusal (length note) s x (length before)) (lent_file note s x) before before (Err no.Setup)
outside_told note before s x t e i = rw (← e) (none_written _ _ before no.Setup (outside_refused (length note) (length before) t x i))

-- ---- a call that is refused as a lent part is
module _ (note before : List ℕ) (k : Refusal) where
  pub setup_told : (s : Result Setup Refusal) (x : Result (List Step) Refusal) → Err k ≡ s
      → Reports (lent_refusal (length note) s x (length before)) (lent_file note s x) before before (Err k)
  setup_told s x e = rw (← e) (none_written _ _ before k refl)

  pub records_told : (s : Result Setup Refusal) (x : Result (List Step) Refusal) (t : Setup) → Ok t ≡ s → in_range t ≡ true → Err k ≡ x
      → Reports (lent_refusal (length note) s x (length before)) (lent_file note s x) before before (Err k)
  records_told s x t e i h = rw (← e, ← h) (none_written _ _ before k (rw i))

  pub workload_setup_told : (seed count : ℕ) (s : Result Setup Refusal) → Err k ≡ s
      → Reports (workload_refusal (length note) s count (length before)) (workload_file seed note s count) before before (Err k)
  workload_setup_told seed count s e = rw (← e) (none_written _ _ before k refl)

module _ (note before after : List ℕ) (a : Result ℕ Refusal) (s : Result Setup Refusal) (t : Setup) (e : Ok t ≡ s) where
  pub file_told : (x : Result (List Step) Refusal) (xs ys : List Step) → Ok xs ≡ x → ys ≡ xs
      → Reports (write_refusal (length note) t ys (length before)) (file_bytes note t ys) before after a
      → Reports (lent_refusal (length note) s x (length before)) (lent_file note s x) before after a
  file_told x xs ys f h d = rw (← e, ← f) (rw h at d)

  pub workload_told : (seed count : ℕ) → Reports (file_refusal (length note) t count (length before)) (file_bytes note t (workload t seed count)) before after a
      → Reports (workload_refusal (length note) s count (length before)) (workload_file seed note s count) before after a
  workload_told seed count d = rw (← e) d

-- ---- an explanation x; r and e are the caller's reason and event before the call
module _ (x : Result (Option Reason) Refusal) (r e : ℕ) where
  pub why_told : (file : List ℕ) (step r' e' n : ℕ) → x ≡ explanation_of file step → (n ≡ refused_by x) × ((r' ≡ reason_after x r) × (e' ≡ event_after x e))
      → TellsWhy file step r r' e e' n
  why_told file step r' e' n h t = record { number = rw h at t.0; reason = rw h at t.1.0; event = rw h at t.1.1 }
