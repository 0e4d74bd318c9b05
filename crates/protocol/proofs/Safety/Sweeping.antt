-- What a sweep leaves: each of the client's copies as `swept` says, and nobody else's touched.
use Prim.Native.Nat.{ℕ, zero, suc, ◌+◌, ◌-◌, ◌*◌, ◌<◌, ◌≤◌}
use Rattle.std.proofs.Math.Decide.{ℕ_discrete, dec_lt}
use native.Mathlib.Omega.{arith}
use Rattle.std.specs.Prelude.{List, ◌⊎◌, ◌≡◌, length}
use Rattle.std.proofs.Math.Logic.{inl, inr, ⊎_elim}
use Rattle.std.proofs.Math.Path.{refl, ap}
use Rattle.std.proofs.Common.{◌∙◌, length-set, get_or-set_same}
use Rattle.std.proofs.Math.ListN.{get_or}
use Rattle.std.proofs.Math.Seq.{get_or-set_other}
use Rattle.laws.specs.Loop.{fold_from}
use Rattle.protocol.specs.declared.records.Copy.{Copy}
use Rattle.protocol.specs.declared.setup.Setup.{Setup}
use Rattle.protocol.specs.declared.step.Sweep.{Sweep}
use Rattle.protocol.specs.declared.step.Sweep.TheVariants.{Keep, Expire, Forget, Erase}
use Rattle.protocol.specs.Tables.{no_copy}
use Rattle.protocol.specs.Client.{swept, sweeps, sweep_at, swept_all}
use Rattle.protocol.specs.Safety.View.{copy_at}
use Rattle.protocol.proofs.Safety.Stores.{row_below}

module _ (s : Setup) (g : Sweep) (first : ℕ) where
  abbrev turn : List Copy → ℕ → List Copy
  turn = sweep_at s g first

  off : (l : List Copy) (j n i : ℕ) → (i < j) ⊎ (j + n ≤ i) → get_or (fold_from turn l j n) i no_copy ≡ get_or l i no_copy
  unfolding fold_from
  off l j zero i h = refl
  off l j (suc n) i h =
      off (turn l j) (j + 1) n i (⊎_elim (λ a. inl (omega arith)) (λ a. inr (omega arith)) h)
      ∙ get_or-set_other l j i _ no_copy (λ e. ⊎_elim (λ a. omega arith) (λ a. omega arith) h)

  hit : (l : List Copy) (j n i : ℕ) → j ≤ i → i < j + n → i < length l → get_or (fold_from turn l j n) i no_copy ≡ swept s g (get_or l i no_copy) (i - first)
  unfolding fold_from
  hit l j zero i a b h = absurd (omega arith)
  hit l j (suc n) i a b h = pick (λ u. hit (turn l j) (j + 1) n i u (omega arith) (rw (length-set l j _) h)) (ℕ_discrete i j)
    where
      same : i ≡ j → get_or (turn l j) i no_copy ≡ swept s g (get_or l i no_copy) (i - first)
      same e = rw (← e) (get_or-set_same l i _ no_copy h)

      pick : (j + 1 ≤ i → get_or (fold_from turn (turn l j) (j + 1) n) i no_copy ≡ swept s g (get_or (turn l j) i no_copy) (i - first)) → Dec (i ≡ j)
          → get_or (fold_from turn (turn l j) (j + 1) n) i no_copy ≡ swept s g (get_or l i no_copy) (i - first)
      pick r (yes e) = off (turn l j) (j + 1) n i (inl (omega arith)) ∙ same e
      pick r (no e) = r (omega arith) ∙ ap (λ (c : Copy). swept s g c (i - first)) (get_or-set_other l j i _ no_copy e)

module _ (s : Setup) (copies : List Copy) (d : ℕ) (full : length copies ≡ s.clients * s.objects) (here : d < s.clients) where
  row : (g : Sweep) → sweeps g s.objects ≡ s.objects → (k : ℕ) → k < s.objects
      → copy_at s (swept_all s g (d * s.objects) copies) d k ≡ swept s g (copy_at s copies d k) k
  unfolding swept_all
  row g e k h =
      let b = row_below s.objects d s.clients k here h in
      let q : d * s.objects + k - d * s.objects ≡ k = omega arith in
      rw e (hit s g (d * s.objects) copies (d * s.objects) s.objects (d * s.objects + k) (omega arith) (omega arith) (omega arith) ∙ ap (swept s g (copy_at s copies d k)) q)

  kept : (k : ℕ) → copy_at s (swept_all s Keep (d * s.objects) copies) d k ≡ swept s Keep (copy_at s copies d k) k
  unfolding swept_all fold_from swept
  kept k = refl

  -- one of the client's copies
  pub swept_own : (g : Sweep) (k : ℕ) → k < s.objects → copy_at s (swept_all s g (d * s.objects) copies) d k ≡ swept s g (copy_at s copies d k) k
  swept_own (Expire v) k h = row (Expire v) refl k h
  swept_own (Forget m) k h = row (Forget m) refl k h
  swept_own Erase k h = row Erase refl k h
  swept_own Keep k h = kept k

  few : (g : Sweep) → sweeps g s.objects ≤ s.objects
  few Keep = omega arith
  few (Expire v) = omega arith
  few (Forget m) = omega arith
  few Erase = omega arith

  -- another client's
  pub swept_other : (g : Sweep) (d' k : ℕ) → (d' ≡ d → ⊥) → k < s.objects → copy_at s (swept_all s g (d * s.objects) copies) d' k ≡ copy_at s copies d' k
  unfolding swept_all
  swept_other g d' k n h =
      off s g (d * s.objects) copies (d * s.objects) (sweeps g s.objects) (d' * s.objects + k) (side (dec_lt d' d))
    where
      side : Dec (d' < d) → (d' * s.objects + k < d * s.objects) ⊎ (d * s.objects + sweeps g s.objects ≤ d' * s.objects + k)
      side (yes a) = inl (row_below s.objects d' d k a h)
      side (no a) = inr (past (few g) (row_below s.objects d d' (s.objects - 1) (omega arith) (omega arith)))
        where
          past : sweeps g s.objects ≤ s.objects → d * s.objects + (s.objects - 1) < d' * s.objects → d * s.objects + sweeps g s.objects ≤ d' * s.objects + k
          past x y = omega arith

-- no sweep
pub swept_keep : (s : Setup) (copies : List Copy) (first : ℕ) → swept_all s Keep first copies ≡ copies
unfolding swept_all fold_from
swept_keep s copies first = refl
