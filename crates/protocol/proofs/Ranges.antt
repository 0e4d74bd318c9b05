-- A setup in range, taken apart: what the code needs of its numbers, and what proofs use.
use Rattle.std.specs.Prelude.{ℕ, ◌≤◌, true, ◌≡◌}
use Rattle.std.proofs.Common.{arith, ltb-true, leb-true, lt-ltb}
use Rattle.laws.specs.Choice.{and-true}
use Rattle.laws.specs.Loop.{all_each}
use Rattle.protocol.specs.declared.setup.Setup.{Setup}
use Rattle.protocol.specs.Setup.{in_range, between, volume_fits}
use Rattle.protocol.specs.Ranges.{Ranges}

limits : (low high n : ℕ) → between low high n ≡ true → (low ≤ n) × (n ≤ high)
limits low high n e =
    let w = and-true _ _ e in
    (leb-true _ _ w.0, leb-true _ _ w.1)

pub ranges : (s : Setup) → in_range s ≡ true → Ranges s
unfolding in_range
ranges s e =
    let w7 = and-true _ _ e in
    let w6 = and-true _ _ w7.0 in
    let w5 = and-true _ _ w6.0 in
    let w4 = and-true _ _ w5.0 in
    let w3 = and-true _ _ w4.0 in
    let w2 = and-true _ _ w3.0 in
    let w1 = and-true _ _ w2.0 in
    let few = limits 1 28 s.objects w2.1 in
    record {
      clients = limits 1 16 s.clients w1.0;
      volumes = limits 1 8 s.volumes w1.1;
      objects = few;
      tv = limits 1 3600 s.tv w3.1;
      t = limits 1 1000000 s.t w4.1;
      m = limits 1 60 s.m w5.1;
      delay = limits 1 65535 s.delay w7.1;
      within = λ o h. ltb-true _ _ (rw (lt-ltb _ _ h) at (all_each (volume_fits s) 28 w6.1 o (omega arith)));
    }
