-- The numbers of the refusals (01, "Questions at the gate"; 02).
use Rattle.std.specs.Prelude.{ℕ, Result, Ok, Err}
use Rattle.protocol.specs.declared.refusal.Refusal.{Refusal}
use Rattle.protocol.specs.declared.refusal.Refusal.TheVariants as no

abbrev pub number_of : Refusal → ℕ
number_of no.Unsound = 1
number_of no.Kind = 2
number_of no.Missing = 3
number_of no.Clock = 4
number_of no.Standing = 5
number_of no.Growth = 6
number_of no.Setup = 7
number_of no.Frame = 8
number_of no.Room = 8
number_of no.File = 9
number_of no.Parts = 10
number_of no.Name = 11

-- the number of a call's answer: 0, or its refusal's
abbrev pub refused_by : {A : Type 0} → Result A Refusal → ℕ
refused_by (Ok x) = 0
refused_by (Err r) = number_of r
