-- Stores into a table at several places in one pass, and what stands where afterwards.
use Prim.Native.Nat.{ℕ, zero, suc, ◌+◌, ◌<◌, ◌≤◌}
use Rattle.std.proofs.Math.Decide.{ℕ_discrete}
use Rattle.std.proofs.Common.{arith, inl, inr, ⊎_elim, sym, ap, ◌∙◌, length-set, get_or-set_same, get_or-set_other}
use Rattle.std.specs.Prelude.{Bool, true, cond, List, [], ◌∷◌, ◌⊎◌, ◌≡◌, length, set}
use Rattle.std.proofs.Math.Path.{refl}
use Rattle.std.proofs.Math.ListN.{get_or}
use Rattle.std.proofs.Math.Seq.{set_out}
use Rattle.laws.specs.Choice.{cond_keeps}
use Rattle.laws.specs.Loop.{fold_from}

-- an element after a store: the new one, or the old one elsewhere
pub set_at {ℓ} : {A : Type ℓ} (l : List A) (i : ℕ) (a : A) (j : ℕ) (d : A) → i < length l
    → ((j ≡ i) × (get_or (set l i a) j d ≡ a)) ⊎ ((j ≡ i → ⊥) × (get_or (set l i a) j d ≡ get_or l j d))
set_at l i a j d h = go (ℕ_discrete j i)
  where
    go : Dec (j ≡ i) → ((j ≡ i) × (get_or (set l i a) j d ≡ a)) ⊎ ((j ≡ i → ⊥) × (get_or (set l i a) j d ≡ get_or l j d))
    go (yes e) = inl (e, rw e (get_or-set_same l i a d h))
    go (no n) = inr (n, get_or-set_other l i j a d n)

-- the same of any place, where a store outside the list stores nothing
pub set_or {ℓ} : {A : Type ℓ} (l : List A) (i : ℕ) (a : A) (j : ℕ) (d : A) → ((j ≡ i) × (get_or (set l i a) j d ≡ a)) ⊎ (get_or (set l i a) j d ≡ get_or l j d)
set_or [] i a j d = inr refl
set_or (x ∷ l) zero a zero d = inl (refl, refl)
set_or (x ∷ l) zero a (suc j) d = inr refl
set_or (x ∷ l) (suc i) a zero d = inr refl
set_or (x ∷ l) (suc i) a (suc j) d = ⊎_elim (λ p. inl (ap suc p.0, p.1)) inr (set_or l i a j d)

module _ {ℓ} {A : Type ℓ} (p : ℕ → Bool) (f : ℕ → ℕ) (g : ℕ → A) where
  -- one turn: at place f k stands g k, where p lets k through
  abbrev pub store_at : List A → ℕ → List A
  store_at l k = cond (p k) (set l (f k) (g k)) l

  -- l with g k at place f k, for each k below n that p lets through
  unfoldable pub store_each : List A → ℕ → List A
  store_each l n = fold_from store_at l 0 n

  length_turn : (l : List A) (k : ℕ) → length (store_at l k) ≡ length l
  length_turn l k = cond_keeps (λ (m : List A). length m ≡ length l) (p k) (λ e. length-set l (f k) (g k)) (λ e. refl)

  length_from : (l : List A) (j n : ℕ) → length (fold_from store_at l j n) ≡ length l
  unfolding fold_from
  length_from l j zero = refl
  length_from l j (suc n) = length_from (store_at l j) (j + 1) n ∙ length_turn l j

  pub length_store : (l : List A) (n : ℕ) → length (store_each l n) ≡ length l
  unfolding store_each
  length_store l n = length_from l 0 n

  turn_other : (l : List A) (k i : ℕ) (d : A) → (p k ≡ true → f k ≡ i → ⊥) → get_or (store_at l k) i d ≡ get_or l i d
  turn_other l k i d h =
      cond_keeps (λ (m : List A). get_or m i d ≡ get_or l i d) (p k) (λ e. get_or-set_other l (f k) i (g k) d (λ q. h e (sym q))) (λ e. refl)

  from_other : (l : List A) (j n i : ℕ) (d : A) → ((k : ℕ) → j ≤ k → k < j + n → p k ≡ true → f k ≡ i → ⊥) → get_or (fold_from store_at l j n) i d ≡ get_or l i d
  unfolding fold_from
  from_other l j zero i d h = refl
  from_other l j (suc n) i d h =
      from_other (store_at l j) (j + 1) n i d (λ k a b. h k (omega arith) (omega arith)) ∙ turn_other l j i d (h j (omega arith) (omega arith))

  -- a place that no turn stores to
  pub store_other : (l : List A) (n i : ℕ) (d : A) → ((k : ℕ) → k < n → p k ≡ true → f k ≡ i → ⊥) → get_or (store_each l n) i d ≡ get_or l i d
  unfolding store_each
  store_other l n i d h = from_other l 0 n i d (λ k a b. h k (omega arith))

  from_hit : ((a b : ℕ) → f a ≡ f b → a ≡ b) → (l : List A) (j n k : ℕ) (d : A) → j ≤ k → k < j + n → p k ≡ true → f k < length l
      → get_or (fold_from store_at l j n) (f k) d ≡ g k
  unfolding fold_from
  from_hit inj l j zero k d a b e h = absurd (omega arith)
  from_hit inj l j (suc n) k d a b e h =
      pick (λ u v. from_hit inj (store_at l j) (j + 1) n k d u v e (rw (length_turn l j) h)) (ℕ_discrete k j)
    where
      now : k ≡ j → get_or (store_at l j) (f k) d ≡ g k
      now q = rw (← q, e) (get_or-set_same l (f k) (g k) d h)

      past : (i : ℕ) → j + 1 ≤ i → i ≡ k → k ≡ j → ⊥
      past i u x y = omega arith

      pick : (j + 1 ≤ k → k < (j + 1) + n → get_or (fold_from store_at (store_at l j) (j + 1) n) (f k) d ≡ g k) → Dec (k ≡ j)
          → get_or (fold_from store_at (store_at l j) (j + 1) n) (f k) d ≡ g k
      pick r (yes q) = from_other (store_at l j) (j + 1) n (f k) d (λ i u v w z. past i u (inj i k z) q) ∙ now q
      pick r (no q) = r (omega arith) (omega arith)

  -- a place that a turn stores to, where no two turns share one
  pub store_hit : ((a b : ℕ) → f a ≡ f b → a ≡ b) → (l : List A) (n k : ℕ) (d : A) → k < n → p k ≡ true → f k < length l → get_or (store_each l n) (f k) d ≡ g k
  unfolding store_each
  store_hit inj l n k d h e i = from_hit inj l 0 n k d (omega arith) (omega arith) e i

-- a pass that stores at its own number, past the end of the list
pub pass_past {ℓ} : {A : Type ℓ} (g : List A → ℕ → A) (l : List A) (j n : ℕ) → length l ≤ j → fold_from (λ (m : List A) k. set m k (g m k)) l j n ≡ l
unfolding fold_from
pass_past g l j zero h = refl
pass_past g l j (suc n) h = rw (set_out l j (g l j) h) (pass_past g l (j + 1) n (omega arith))

-- a pass that goes on where the last turn left it: the form of a loop
abbrev pub always : ℕ → Bool
always k = true
