-- What a caller from another language gets: 0 or the refusal's number in 01 or 02, and the bytes and length in what it lent.
use Rattle.std.specs.Prelude.{ℕ, cond, List, [], ◌≡◌, eqb, length, Option, Result, Ok, Err}
use Rattle.std.proofs.lemmas.List.Edits.{sets}
use Rattle.protocol.specs.declared.refusal.Refusal.{Refusal}
use Rattle.protocol.specs.declared.setup.Setup.{Setup}
use Rattle.protocol.specs.declared.step.Step.{Step}
use Rattle.protocol.specs.Refusals.{number_of, refused_by}
use Rattle.bytes_layout.specs.Report.{unless_refused}
use Rattle.file_records.specs.Bytes.{file_bytes}
use Rattle.export_parts.specs.Lent.{lent_refusal, lent_file}
use Rattle.run.specs.Listed.{file_listing, list_refusal}
use Rattle.workload.specs.Workload.{workload, file_refusal}
use Rattle.promises.specs.declared.reasons.Reason.{Reason}
use Rattle.promises.specs.Reasons.Reason.{reason_number, event_number}
use Rattle.reason.specs.Explained.{explanation_of}

-- The caller's length after the call: the number of bytes written, or the old length after a refusal.
abbrev pub length_after : Result ℕ Refusal → ℕ → ℕ
length_after (Ok n) before = n
length_after (Err r) before = before

-- The call writes the bytes b at the start of the output, and their length; a refused call changes neither.
pub record Writes (refusal : ℕ) (b before after : List ℕ) (n m r : ℕ) : Type 0 where
  pub number : r ≡ refusal
  pub written : m ≡ cond (eqb refusal 0) (length b) n
  pub bytes : after ≡ sets before 0 (unless_refused refusal b)

-- The call writes a file's listing.
abbrev pub Lists : List ℕ → List ℕ → List ℕ → ℕ → ℕ → ℕ → Type 0
Lists file before after n m r = Writes (list_refusal file (length before)) (file_listing file) before after n m r

-- The call writes a run file of these steps, or is refused as its parts are.
abbrev pub WritesFile : List ℕ → Result Setup Refusal → Result (List Step) Refusal → List ℕ → List ℕ → ℕ → ℕ → ℕ → Type 0
WritesFile note s x before after n m r = Writes (lent_refusal (length note) s x (length before)) (lent_file note s x) before after n m r

-- The refusal of the call that writes a workload's file with a lent setup, or 0; and that file, empty where there is none.
abbrev pub workload_refusal : ℕ → Result Setup Refusal → ℕ → ℕ → ℕ
workload_refusal n (Err r) count room = number_of r
workload_refusal n (Ok s) count room = file_refusal n s count room

abbrev pub workload_file : ℕ → List ℕ → Result Setup Refusal → ℕ → List ℕ
workload_file seed note (Err r) count = []
workload_file seed note (Ok s) count = file_bytes note s (workload s seed count)

-- The call writes a run file of the first `count` steps of a seed, or is refused as its setup is.
abbrev pub WritesWorkload : ℕ → List ℕ → Result Setup Refusal → ℕ → List ℕ → List ℕ → ℕ → ℕ → ℕ → Type 0
WritesWorkload seed note s count before after n m r =
    Writes (workload_refusal (length note) s count (length before)) (workload_file seed note s count) before after n m r

-- 02, A8: what a caller gets of an explanation. A refusal leaves its reason and its event as they were.
abbrev pub reason_after : Result (Option Reason) Refusal → ℕ → ℕ
reason_after (Ok r) before = reason_number r
reason_after (Err k) before = before

abbrev pub event_after : Result (Option Reason) Refusal → ℕ → ℕ
event_after (Ok r) before = event_number r
event_after (Err k) before = before

-- The call stores the reason of a file's step, r before and r' after it, and the number of its event's step, e before and e' after it.
pub record TellsWhy (file : List ℕ) (step r r' e e' n : ℕ) : Type 0 where
  pub number : n ≡ refused_by (explanation_of file step)
  pub reason : r' ≡ reason_after (explanation_of file step) r
  pub event : e' ≡ event_after (explanation_of file step) e
