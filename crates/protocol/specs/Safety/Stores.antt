-- Fields per client and volume, per client and object, and the clients' copies: what stands there after a store, and what fresh lists hold.
use Rattle.std.specs.Prelude.{ℕ, Bool, true, ◌⊎◌, ◌≡◌}

-- what is read at row k and column u after a store at row d and column v: the new element, or the old one elsewhere
abbrev pub After {ℓ} : {A : Type ℓ} → ℕ → ℕ → ℕ → ℕ → A → A → A → Type ℓ
After d v k u got new old = ((k ≡ d) × (u ≡ v) × (got ≡ new)) ⊎ ((k ≡ d → u ≡ v → ⊥) × (got ≡ old))

-- the same of row k and column i after a store at row d and each column that passes p
abbrev pub AfterEach {ℓ} : {A : Type ℓ} → ℕ → (ℕ → Bool) → ℕ → ℕ → A → A → A → Type ℓ
AfterEach d p k i got new old = ((k ≡ d) × (p i ≡ true) × (got ≡ new)) ⊎ ((k ≡ d → p i ≡ true → ⊥) × (got ≡ old))
