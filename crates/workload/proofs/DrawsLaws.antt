-- Lemmas cited by the function proofs: each derives a postcondition from the facts of one path.
use Rattle.std.proofs.Common.{◌≡◌, ℕ, ◌+◌, ◌*◌, ◌%◌, ◌^◌, ◌<◌, ◌≤◌, Bool, true, cond, mod-lt, arith}
use Rattle.protocol.specs.declared.setup.Setup.{Setup}
use Rattle.protocol.specs.declared.step.Step.{Step}
use Rattle.protocol.specs.Setup.{in_range}
use Rattle.protocol.proofs.Ranges.{ranges}
use Rattle.protocol.specs.Gate.{is_clock, is_write, uses_client, uses_object, uses_place}
use Rattle.workload.specs.declared.draws.Drawn.{Drawn}
use Rattle.workload.specs.Draws.{next, draw, fields_drawn, only_used, total_after, drawn_after}

-- Reducing the product first does not change the sum's remainder.
pub next_by : (s p r : ℕ) → p ≡ (1664525 * s) % 4294967296 → r ≡ (p + 1013904223) % 2 ^ 32 → r ≡ next s
unfolding next
next_by s p r e f = omega (arith, e, f)

-- The step with its unused fields set to 0, assembled from what the calls returned.
module _ (x : Step) where
  pub used_by : (client object place clock value : ℕ) (a b c d e : Bool) → a ≡ uses_client x → client ≡ cond a x.client 0 → b ≡ uses_object x → object ≡ cond b x.object 0
      → c ≡ uses_place x → place ≡ cond c x.place 0 → d ≡ is_clock x → clock ≡ cond d x.clock 0 → e ≡ is_write x → value ≡ cond e x.value 0
      → (let y : Step = record { kind = x.kind; client = client; object = object; place = place; clock = clock; value = value } in y ≡ only_used x)
  unfolding only_used
  used_by client object place clock value a b c d e f g h i j k l m n o = rw (g, i, k, m, o, f, h, j, l, n)

  pub total_by : (total r : ℕ) (b : Bool) → b ≡ is_clock x → r ≡ cond b x.clock total → r ≡ total_after x total
  unfolding total_after
  total_by total r b e f = rw e at f

-- Five draws in a row.
module _ (s a b c d e : ℕ) (f : a ≡ next s) (g : b ≡ next a) (h : c ≡ next b) (i : d ≡ next c) (j : e ≡ next d) where
  five : (a ≡ draw s 1) × ((b ≡ draw s 2) × ((c ≡ draw s 3) × ((d ≡ draw s 4) × (e ≡ draw s 5))))
  unfolding draw
  five = (f, (rw (← f) g, (rw (← f, ← g) h, (rw (← f, ← g, ← h) i, rw (← f, ← g, ← h, ← i) j))))

  pub drawn_by : (q : Setup) (total after client object place : ℕ) (x : Step) → client ≡ b % q.clients → object ≡ c % q.objects → place ≡ d % 64
      → (let y : Step = record { kind = 1 + a % 9; client = client; object = object; place = place; clock = total + e % 5; value = e % 5 } in x ≡ only_used y)
      → after ≡ total_after x total → (let r : Drawn = record { step = x; seed = e; total = after } in r ≡ drawn_after q s total)
  unfolding fields_drawn
  drawn_by q total after client object place x k l m n o =
      rw (o, n, k, l, m, five.0, five.1.0, five.1.1.0, five.1.1.1.0, five.1.1.1.1)

-- A remainder modulo a count of at most 64 fits into a byte.
pub byte_left : (n m : ℕ) → 1 ≤ m → m ≤ 64 → n % m < 256
byte_left n m g h = omega (arith, mod-lt n {m = m} g)

-- Bounds on the counts of a setup in range.
module _ (q : Setup) (e : in_range q ≡ true) where
  pub clients_counted : (1 ≤ q.clients) × (q.clients ≤ 64)
  clients_counted = ((ranges q e).clients.0, omega (arith, (ranges q e).clients.1))

  pub objects_counted : (1 ≤ q.objects) × (q.objects ≤ 64)
  objects_counted = ((ranges q e).objects.0, omega (arith, (ranges q e).objects.1))
