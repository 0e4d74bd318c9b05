-- In a setup in range, every object has a volume within the bounds; and when notes age, without a sum.
use Prim.Native.Nat.{ℕ, ◌+◌, ◌-◌, ◌<◌, ◌≤◌}
use native.Mathlib.Omega.{arith}
use mathlib.Core.Bool.{Bool, true, false, not, ◌&&◌}
use mathlib.Core.Logic.{◌⊎◌, inl, inr}
use mathlib.Core.Path.{◌≡◌, refl, sym, ap, ◌∙◌}
use lib.Dec.{eqb, leb}
use borrow.Author.Tests.{le-leb, lt-leb, leb-true, leb-false}
use Rattle.laws.specs.Choice.{and_no, true_or_false}
use Rattle.protocol.specs.declared.setup.Setup.{Setup}
use Rattle.protocol.specs.Setup.{in_range, volume_of}
use Rattle.protocol.proofs.Ranges.{ranges}
use Rattle.lease_tests.specs.Parts.{Placed, ages_by}

pub placed : (s : Setup) (o : ℕ) → in_range s ≡ true → o < s.objects → Placed s o (volume_of s o)
placed s o e h =
    let r = ranges s e in
    let v = r.within o h in
    record { is = refl; exists = v; volume = omega arith; object = omega arith; clients = r.clients.1; objects = omega (arith, r.objects.1) }

module _ (clock notes lease delay : ℕ) where
  pub not_yet : clock < delay → false ≡ ages_by clock notes lease delay
  not_yet h = sym (rw (lt-leb (lease + delay) clock (omega arith)) (and_no (not (eqb notes 0))))

  moved : delay ≤ clock → (leb lease (clock - delay) ≡ true) ⊎ (leb lease (clock - delay) ≡ false)
      → leb lease (clock - delay) ≡ leb (lease + delay) clock
  moved h (inl e) = e ∙ sym (le-leb (lease + delay) clock (omega (arith, leb-true lease (clock - delay) e)))
  moved h (inr e) = e ∙ sym (lt-leb (lease + delay) clock (omega (arith, leb-false lease (clock - delay) e)))

  pub by_difference : delay ≤ clock → (not (eqb notes 0) && leb lease (clock - delay)) ≡ ages_by clock notes lease delay
  by_difference h = ap (λ (b : Bool). not (eqb notes 0) && b) (moved h (true_or_false _))
