-- A setup's records are the first ones that the words have room for. Stores and sweeps inside the setup change its records; those past its last record
-- change nothing.
use Prim.Native.Nat.{ℕ, zero, suc, ◌+◌, ◌-◌, ◌*◌, ◌<◌, ◌≤◌}
use native.Mathlib.Nat.{mul-le-mul_right, suc-mul}
use native.Mathlib.Omega.{arith}
use mathlib.Core.Bool.{true}
use mathlib.Core.List.{List}
use mathlib.Core.Path.{◌≡◌, refl, sym, ap, ◌∙◌}
use lib.ListN.{length, get_or, take, length-take}
use lib.Seq.{take-set-lt, get_or-take}
use Rattle.laws.specs.Loop.{fold_from}
use Rattle.laws.specs.Store.{pass_past}
use Rattle.protocol.specs.declared.records.Copy.{Copy}
use Rattle.protocol.specs.declared.records.Request.{Request}
use Rattle.protocol.specs.declared.setup.Setup.{Setup}
use Rattle.protocol.specs.declared.step.Change.{Change}
use Rattle.protocol.specs.declared.step.Sweep.{Sweep}
use Rattle.protocol.specs.declared.step.Sweep.TheVariants as sweep
use Rattle.protocol.specs.declared.step.Target.{Target}
use Rattle.protocol.specs.declared.step.Turn.{Turn}
use Rattle.protocol.specs.Setup.{in_range}
use Rattle.protocol.proofs.Ranges.{ranges}
use Rattle.protocol.specs.Tables.{no_copy, no_request}
use Rattle.protocol.specs.Client.{CanTurn, turned, swept, sweeps, sweep_at, swept_all}
use Rattle.protocol.specs.World.{World}
use Rattle.state_words.specs.View.{tables_of, records_of, requests_of, world_of}
use Rattle.state_words.proofs.Worlds.{few_copies}
use Rattle.client_records.specs.Stores.{RequestPut, with_copy, swept_over}
use Rattle.client_apply.specs.Changes.{copy_put, copy_changed, swept_of, request_turned, changed_at}
use Rattle.client_records.specs.Requests.{request_stored_law}

-- the words have room for the setup's records
module _ (s : Setup) (i : in_range s ≡ true) where
  pub client_there : (d : ℕ) → d < s.clients → d < 16
  client_there d h = omega (arith, (ranges s i).clients.1)

-- a client's copies end within the setup's copies
own_end : (s : Setup) (d : ℕ) → d < s.clients → d * s.objects + s.objects ≤ s.clients * s.objects
own_end s d h =
    let k : suc d * s.objects ≤ s.clients * s.objects = mul-le-mul_right s.objects h in
    omega (arith, k, suc-mul d s.objects)

pub own_there : (s : Setup) → in_range s ≡ true → (d first : ℕ) → first ≡ d * s.objects → d < s.clients → first + s.objects ≤ 512
own_there s i d first e h = rw e (omega (arith, own_end s d h, few_copies s i))

-- ---- the first n of a list
module _ {A : Type 0} (n : ℕ) (l : List A) (i : ℕ) where
  past : n ≤ i → length (take n l) ≤ i
  past h = omega (arith, length-take n l)

abbrev with_ones : World → List Copy → World
with_ones u l = record { tables = u.tables; copies = l; requests = u.requests }

-- ---- the copy
module _ (s : Setup) (w x : List ℕ) (place : ℕ) where
  abbrev all : ℕ
  all = s.clients * s.objects

  pub copy_inside : (c : Copy) → place < all → c ≡ get_or (records_of w x).copies place no_copy → c ≡ get_or (world_of s w x).copies place no_copy
  copy_inside c h e = e ∙ sym (get_or-take all (records_of w x).copies place no_copy h)

  pub put_inside : (u y : List ℕ) (c : Copy) → place < all → (tables_of u y ≡ tables_of w x) × (records_of u y ≡ with_copy (records_of w x) place c)
      → world_of s u y ≡ copy_put (world_of s w x) place c
  put_inside u y c h e = rw (e.0, e.1, take-set-lt all (records_of w x).copies place c h)

-- ---- the sweep
module _ (s : Setup) (g : Sweep) (first : ℕ) where
  -- a sweep inside the first n elements may be done before or after taking them
  sweep_inside : (n j m : ℕ) (l : List Copy) → j + m ≤ n → take n (fold_from (sweep_at s g first) l j m) ≡ fold_from (sweep_at s g first) (take n l) j m
  unfolding fold_from
  sweep_inside n j zero l h = refl
  sweep_inside n j (suc m) l h =
      let k : j < n = omega arith in
      sweep_inside n (j + 1) m (sweep_at s g first l j) (omega arith)
      ∙ rw (take-set-lt n l j _ k, ← get_or-take n l j no_copy k)

  module _ (w x : List ℕ) (d : ℕ) (e : first ≡ d * s.objects) where
    pub sweep_own : (u y : List ℕ) → d < s.clients → (tables_of u y ≡ tables_of w x) × (records_of u y ≡ swept_over s g first s.objects (records_of w x))
        → world_of s u y ≡ swept_of s g first s.objects (world_of s w x)
    sweep_own u y h f =
        rw (f.0, f.1, sweep_inside (s.clients * s.objects) first s.objects (records_of w x).copies (rw e (own_end s d h)))

    pub sweep_past : s.clients ≤ d → world_of s w x ≡ swept_of s g first s.objects (world_of s w x)
    sweep_past h =
        ap (with_ones (world_of s w x))
        (sym (pass_past (λ m k. swept s g (get_or m k no_copy) (k - first)) (take (s.clients * s.objects) (records_of w x).copies) first s.objects
        (past (s.clients * s.objects) (records_of w x).copies first (rw e (mul-le-mul_right s.objects h)))))

  pub sweep_kept : (u : World) → g ≡ sweep.Keep → u ≡ swept_of s g first (sweeps g s.objects) u
  unfolding fold_from
  sweep_kept u e = rw e

-- ---- the request
own_requests : (w x : List ℕ) → requests_of w ≡ (records_of w x).requests
unfolding records_of
own_requests w x = refl

module _ (s : Setup) (w x : List ℕ) (d : ℕ) where
  pub request_inside : (r : Request) → d < s.clients → r ≡ get_or (requests_of w) d no_request → r ≡ get_or (world_of s w x).requests d no_request
  request_inside r h e =
      e ∙ ap (λ (l : List Request). get_or l d no_request) (own_requests w x) ∙ sym (get_or-take s.clients (records_of w x).requests d no_request h)

  module _ (g : Turn) where
    pub can_turn : (r : Request) → d < s.clients → r ≡ get_or (requests_of w) d no_request → CanTurn (get_or (world_of s w x).requests d no_request) g → CanTurn r g
    can_turn r h e t = rw (request_inside r h e) t

    pub turn_inside : (u : List ℕ) (r q : Request) → d < 16 → d < s.clients → r ≡ get_or (requests_of w) d no_request → q ≡ turned r g → RequestPut w u d q
        → world_of s u x ≡ request_turned (world_of s w x) d g
    turn_inside u r q k h e f p =
        let m = request_stored_law w u x d q k p in
        rw (m.0, m.1, take-set-lt s.clients (records_of w x).requests d q h, f, request_inside r h e)

-- ---- all three
module _ (s : Setup) (a : Target) (g : Change) (w x : List ℕ) (u v : World) (e : u ≡ copy_changed (world_of s w x) a.copy g.copy)
    (f : v ≡ swept_of s g.sweep a.first (sweeps g.sweep s.objects) u) where
  pub still_turns : CanTurn (get_or (world_of s w x).requests a.client no_request) g.request → CanTurn (get_or v.requests a.client no_request) g.request
  still_turns h = rw (f, e) h

  pub changes : (y : World) → y ≡ request_turned v a.client g.request → y ≡ changed_at s (world_of s w x) a g
  unfolding swept_all
  changes y h = rw (h, f, e)
