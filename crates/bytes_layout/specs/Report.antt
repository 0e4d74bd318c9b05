-- Calls that write bytes to the start of a lent output, or are refused and leave it unchanged: "the first "no" gives its number, nothing else, and
-- every lent table and buffer is unchanged".
use Rattle.std.specs.Prelude.{ℕ, cond, List, [], ◌≡◌, eqb, length, Result, Ok, Err}
use Rattle.std.proofs.lemmas.List.Edits.{sets}
use Rattle.protocol.specs.declared.refusal.Refusal.{Refusal}
use Rattle.protocol.specs.Refusals.{number_of}

-- the number of the answer in 01 or 02: 0 if the bytes were written, else the refusal's
abbrev pub report_number : Result ℕ Refusal → ℕ
report_number (Ok n) = 0
report_number (Err r) = number_of r

-- the number of bytes written, 0 for a refusal
abbrev pub report_length : Result ℕ Refusal → ℕ
report_length (Ok n) = n
report_length (Err r) = 0

-- the report is that of a call that writes n bytes if `refusal` is 0, and is otherwise refused with that number
abbrev pub report_of : ℕ → ℕ → Result ℕ Refusal → Type 0
report_of refusal n (Ok m) = (refusal ≡ 0) × (m ≡ n)
report_of refusal n (Err r) = refusal ≡ number_of r

-- the bytes that the call writes: none if it is refused
unfoldable pub unless_refused : ℕ → List ℕ → List ℕ
unless_refused refusal b = cond (eqb refusal 0) b []

-- the report r of a call that writes b unless it is refused, and the output before and after it
pub record Reports (refusal : ℕ) (b before after : List ℕ) (r : Result ℕ Refusal) : Type 0 where
  pub answer : report_of refusal (length b) r
  pub number : report_number r ≡ refusal
  pub long : report_length r ≡ length (unless_refused refusal b)
  -- "Output bytes past it stay."
  pub bytes : after ≡ sets before 0 (unless_refused refusal b)
