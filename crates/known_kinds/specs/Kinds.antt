-- The numbers of the kinds of steps (01, "Steps"; 02, A7).
use Rattle.std.specs.Prelude.{ℕ, ◌<◌, ◌≡◌, ◌⊎◌, Result, MatchResult}
use Rattle.known_kinds.specs.declared.StepKind.{StepKind}
use Rattle.known_kinds.specs.declared.StepKind.TheVariants.{Clock, Read, Ask, Write, Deliver, Lose, Double, RestartServer, RestartClient, Save, Return}
use Rattle.protocol.specs.declared.refusal.Refusal.{Refusal}
use Rattle.protocol.specs.declared.refusal.Refusal.TheVariants as no

abbrev pub number_of : StepKind → ℕ
number_of Clock = 1
number_of Read = 2
number_of Ask = 3
number_of Write = 4
number_of Deliver = 5
number_of Lose = 6
number_of Double = 7
number_of RestartServer = 8
number_of RestartClient = 9
number_of Save = 10
number_of Return = 11

-- the result is the kind with this number, or the refusal of a number that no kind has
abbrev pub Numbers : ℕ → Result StepKind Refusal → Type 0
Numbers n r = MatchResult r (λ kind. n ≡ number_of kind) (λ e. (e ≡ no.Kind) × ((n < 1) ⊎ (11 < n)))
