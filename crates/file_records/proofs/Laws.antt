-- Lemmas cited by the function proofs: each derives a postcondition or a loop invariant from the facts of one path or iteration.
use Prim.Native.Nat.{ℕ, ◌+◌}
use mathlib.Core.List.{List}
use mathlib.Core.Path.{◌≡◌}
use lib.ListN.{get_or}
use Rattle.bytes_layout.specs.Number.{bytes_at, number_at}
use Rattle.protocol.specs.declared.setup.Setup.{Setup}
use Rattle.protocol.specs.declared.step.Step.{Step}
use Rattle.file_records.specs.Records.{setup_in, step_in}

-- The fields of a record, assembled from what the calls returned.
module _ (l : List ℕ) (p : ℕ) where
  pub setup_by : (a b c tv t m w : ℕ) (v : List ℕ) → a ≡ get_or l p 0 → b ≡ get_or l (p + 1) 0 → c ≡ get_or l (p + 2) 0
      → tv ≡ number_at l (p + 4) 4 → t ≡ number_at l (p + 8) 4 → m ≡ number_at l (p + 12) 4 → v ≡ bytes_at l (p + 16) 28 → w ≡ number_at l (p + 44) 4
      → (let x : Setup = record { clients = a; volumes = b; objects = c; tv = tv; t = t; m = m; volume = v; delay = w } in x ≡ setup_in l p)
  unfolding setup_in
  setup_by a b c tv t m w v e f g h i j k n = rw (e, f, g, h, i, j, k, n)

  pub step_by : (t v : ℕ) → t ≡ number_at l (p + 4) 4 → v ≡ number_at l (p + 8) 8
      → (let x : Step = record { kind = get_or l p 0; client = get_or l (p + 1) 0; object = get_or l (p + 2) 0; place = get_or l (p + 3) 0; clock = t; value = v } in x ≡ step_in l p)
  unfolding step_in
  step_by t v e f = rw (e, f)
