-- Calls that write bytes to the start of a lent output, or are refused and leave it unchanged: "the first "no" gives its number, nothing else, and
-- every lent table and buffer is unchanged".
use Rattle.std.proofs.Common.{sym}
use Rattle.std.specs.Prelude.{ℕ, false, List, ◌≡◌, refl, eqb, length, Result, Ok, Err}
use Rattle.std.proofs.lemmas.List.Edits.{sets}
use Rattle.protocol.specs.declared.refusal.Refusal.{Refusal}
use Rattle.protocol.specs.declared.refusal.Refusal.TheVariants as no
use Rattle.protocol.specs.Refusals.{number_of}
use Rattle.bytes_layout.specs.Report.{unless_refused, Reports}

-- no refusal has the number 0
pub number_some : (r : Refusal) → eqb (number_of r) 0 ≡ false
number_some no.Unsound = refl
number_some no.Kind = refl
number_some no.Missing = refl
number_some no.Clock = refl
number_some no.Standing = refl
number_some no.Growth = refl
number_some no.Setup = refl
number_some no.Frame = refl
number_some no.Room = refl
number_some no.File = refl
number_some no.Parts = refl
number_some no.Name = refl

module _ (refusal : ℕ) (b before : List ℕ) where
  -- ---- the two ways through the call: everything is written, or nothing is
  pub all_written : (after : List ℕ) → refusal ≡ 0 → after ≡ sets before 0 b → Reports refusal b before after (Ok (length b))
  unfolding unless_refused
  all_written after e f = record { answer = (e, refl); number = sym e; long = rw e; bytes = rw e f }

  pub none_written : (k : Refusal) → refusal ≡ number_of k → Reports refusal b before before (Err k)
  unfolding unless_refused
  none_written k e = record { answer = e; number = sym e; long = rw (e, number_some k); bytes = rw (e, number_some k) }

  -- ---- what the caller learns from the report
  module _ (after : List ℕ) (r : Result ℕ Refusal) (d : Reports refusal b before after r) where
    pub written_all : (n : ℕ) → r ≡ Ok n → (refusal ≡ 0) × ((n ≡ length b) × (after ≡ sets before 0 b))
    unfolding unless_refused
    written_all n e =
        let a = rw e at d.answer in
        (a.0, (a.1, rw a.0 at d.bytes))

    pub refused_none : (k : Refusal) → r ≡ Err k → (refusal ≡ number_of k) × ((eqb refusal 0 ≡ false) × (after ≡ before))
    unfolding unless_refused
    refused_none k e =
        let a = rw e at d.answer in
        (a, (rw a (number_some k), rw (a, number_some k) at d.bytes))
