-- 01, "Questions at the gate": asked in order; the first "no" gives its number. 0 is none: the step is accepted.
use Rattle.std.specs.Prelude.{ℕ, suc, Bool, true, false, ◌≡◌, refl}
use Rattle.std.proofs.Common.{arith}
use Rattle.protocol.specs.Gate.{or_refuse}

-- where nothing is refused, the question was answered "yes"
pub asked : (ok : Bool) (k n : ℕ) → or_refuse ok (suc k) n ≡ 0 → (ok ≡ true) × (n ≡ 0)
asked true k n e = (refl, e)
asked false k n e = absurd (omega arith)
