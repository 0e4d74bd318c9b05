-- No refusal has the number 0, which says that every question was answered "yes".
use Rattle.std.proofs.Common.{◌≡◌, refl, false, eqb}
use Rattle.protocol.specs.declared.refusal.Refusal.{Refusal}
use Rattle.protocol.specs.declared.refusal.Refusal.TheVariants as no
use Rattle.protocol.specs.Refusals.{number_of}

pub not_zero : (e : Refusal) → eqb (number_of e) 0 ≡ false
not_zero no.Unsound = refl
not_zero no.Kind = refl
not_zero no.Missing = refl
not_zero no.Clock = refl
not_zero no.Standing = refl
not_zero no.Growth = refl
not_zero no.Setup = refl
not_zero no.Frame = refl
not_zero no.Room = refl
not_zero no.File = refl
not_zero no.Parts = refl
not_zero no.Name = refl
