-- A function with one place replaced.
use Rattle.std.specs.Prelude.{ℕ, cond, ◌≡◌, refl, eqb}
use Rattle.std.proofs.Common.{⊎_elim, sym, ◌∙◌, eq-eqb, ne_eqb}
use Rattle.laws.specs.Choice.{same?}

-- f with x at o
abbrev pub updated : {A : Type 0} → (ℕ → A) → ℕ → A → ℕ → A
updated f o x k = cond (eqb k o) x (f k)

pub updated_same : {A : Type 0} (f : ℕ → A) (o : ℕ) (x : A) → updated f o x o ≡ x
updated_same f o x = rw (eq-eqb o o refl)

pub updated_other : {A : Type 0} (f : ℕ → A) (o k : ℕ) (x : A) → (k ≡ o → ⊥) → updated f o x k ≡ f k
updated_other f o k x h = rw (ne_eqb k o h)

pub updated_agree : {A : Type 0} (f g : ℕ → A) (o k : ℕ) (x : A) → ((k ≡ o → ⊥) → f k ≡ g k) → updated f o x k ≡ updated g o x k
updated_agree f g o k x h =
    ⊎_elim (λ q. rw q (updated_same f o x ∙ sym (updated_same g o x))) (λ q. updated_other f o k x q ∙ h q ∙ sym (updated_other g o k x q)) (same? k o)
