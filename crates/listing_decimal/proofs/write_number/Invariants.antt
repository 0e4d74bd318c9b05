use Prim.Native.Nat.{◌≤◌}
use mathlib.Core.Path.{◌≡◌}
use lib.ListN.{length}
use lib.Seq.{sets}
use Rattle.listing_decimal.specs.Decimal.{digits}
use Rattle.listing_decimal.proofs.write_number.Given as goal

abbrev pub invariant-loop-left : goal.invariant-loop-left
invariant-loop-left l = (l.n ≤ 20) × ((length l.out ≡ length l.initial.out) × (sets l.out l.at (digits l.left l.higher) ≡ sets l.initial.out l.at (digits l.n l.number)))
