-- The world of a setup in range: its records fit in the words, and fresh words hold its fresh world.
use Rattle.std.specs.Prelude.{ℕ, zero, suc, ◌*◌, ◌≤◌, true, List, ◌∷◌, ◌≡◌, refl, take, replicate}
use Rattle.std.proofs.Common.{mul-le-mul, arith, ap}
use Rattle.protocol.specs.declared.setup.Setup.{Setup}
use Rattle.protocol.specs.Setup.{in_range}
use Rattle.protocol.specs.Ranges.{Ranges}
use Rattle.protocol.proofs.Ranges.{ranges}
use Rattle.protocol.specs.Tables.{no_copy, fresh_request, fresh_tables}
use Rattle.protocol.specs.World.{fresh_world}
use Rattle.state_words.specs.View.{tables_of, records_of, fresh_records, world_of}

few : {s : Setup} → Ranges s → s.objects ≤ 32
few r = omega arith

pub few_copies : (s : Setup) → in_range s ≡ true → s.clients * s.objects ≤ 512
few_copies s i = mul-le-mul (ranges s i).clients.1 (few (ranges s i))

take_same {ℓ} : {A : Type ℓ} (n k : ℕ) (a : A) → n ≤ k → take n (replicate k a) ≡ replicate n a
take_same zero k a h = refl
take_same (suc n) zero a h = absurd (omega arith)
take_same (suc n) (suc k) a h = ap (◌∷◌ a) (take_same n k a (omega arith))

pub fresh_world_law : (s : Setup) (w x : List ℕ) → in_range s ≡ true → (tables_of w x ≡ fresh_tables) × (records_of w x ≡ fresh_records) → world_of s w x ≡ fresh_world s
fresh_world_law s w x i f =
    rw (f.0, f.1, take_same (s.clients * s.objects) 512 no_copy (few_copies s i), take_same s.clients 16 fresh_request (ranges s i).clients.1)
