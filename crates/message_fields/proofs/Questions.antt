-- The test of a frame's fields is the question of 01, spelled out: "kind, value present and zero fields right?"
use Rattle.std.specs.Prelude.{ℕ, Bool, true, false, ◌&&◌, ◌≡◌, refl, eqb, Option, None, Some}
use Rattle.std.proofs.Math.Decide.{ℕ_discrete}
use Rattle.std.proofs.Math.Bool.{cond, and-true, and-false}
use Rattle.std.proofs.Common.{sym, ap, subst, ◌∙◌}
use borrow.Author.Tests.{eq-eqb, ne_eqb}
use Rattle.protocol.specs.declared.message.Kind.TheVariants.{Grant}
use Rattle.message_fields.specs.declared.Fields.{Fields}
use Rattle.message_fields.specs.Fields.{row, kind_fields, kind_in, same, sound}
use Rattle.message_fields.specs.Questions.{none, right}

self : (n : ℕ) → eqb n n ≡ true
self n = eq-eqb n n refl

-- a test may move past the next one, two or three
past_one : (a b c : Bool) → (a && b && c) ≡ (a && c && b)
past_one true true c = sym (and-true c)
past_one true false c = sym (and-false c)
past_one false b c = refl

past_two : (a b c d : Bool) → (a && b && c && d) ≡ (a && c && d && b)
past_two a b c d = ap (λ (z : Bool). z && d) (past_one a b c) ∙ past_one (a && c) b d

past_three : (a b c d e : Bool) → (a && b && c && d && e) ≡ (a && c && d && e && b)
past_three a b c d e = ap (λ (z : Bool). z && e) (past_two a b c d) ∙ past_one (a && c && d) b e

module _ (d o p n x e w y v : ℕ) where
  renew : sound (row 1 d o p n x e w y v) ≡ right (row 1 d o p n x e w y v)
  unfolding right same kind_fields kind_in
  renew = simp (self, and-true)

  invalidate : sound (row 3 d o p n x e w y v) ≡ right (row 3 d o p n x e w y v)
  unfolding right same kind_fields kind_in
  invalidate = simp (self, and-true) (past_three (none p) (none n) (none x) (none y) (none v))

  ack : sound (row 4 d o p n x e w y v) ≡ right (row 4 d o p n x e w y v)
  unfolding right same kind_fields kind_in
  ack = simp (self, and-true) (past_three (none p) (none n) (none x) (none y) (none v))

  offer : sound (row 5 d o p n x e w y v) ≡ right (row 5 d o p n x e w y v)
  unfolding right same kind_fields kind_in
  offer = simp (self, and-true) (past_two (none p && none x) (none w) (none y) (none v))

  dropped : sound (row 6 d o p n x e w y v) ≡ right (row 6 d o p n x e w y v)
  unfolding right same kind_fields kind_in
  dropped = simp (self, and-true) (past_two (none p && none x) (none w) (none y) (none v))

  batch : sound (row 7 d o p n x e w y v) ≡ right (row 7 d o p n x e w y v)
  unfolding right same kind_fields kind_in
  batch = simp (self, and-true)

  cleared : sound (row 8 d o p n x e w y v) ≡ right (row 8 d o p n x e w y v)
  unfolding right same kind_fields kind_in
  cleared = simp (self, and-true)

  grant_with : Option ℕ → Bool
  grant_with q = same (kind_fields d (Grant o n x e w y q)) (row 2 d o p n x e w y v)

  grant_some : grant_with (Some v) ≡ eqb 1 p
  unfolding same kind_fields grant_with
  grant_some = simp (self, and-true)

  grant_none : grant_with None ≡ (none p && none v)
  unfolding same kind_fields grant_with
  grant_none = simp (self, and-true)

  grant : sound (row 2 d o p n x e w y v) ≡ right (row 2 d o p n x e w y v)
  unfolding right kind_in grant_with
  grant = go (ℕ_discrete p 0)
    where
      go : Dec (p ≡ 0) → grant_with (cond (eqb p 0) None (Some v)) ≡ cond (eqb p 0) (none v) (eqb 1 p)
      go (yes h) = rw (eq-eqb p 0 h) (grant_none ∙ rw h)
      go (no h) = rw (ne_eqb p 0 h) grant_some

  other : (k : ℕ) → (k ≡ 1 → ⊥) → (k ≡ 2 → ⊥) → (k ≡ 3 → ⊥) → (k ≡ 4 → ⊥) → (k ≡ 5 → ⊥) → (k ≡ 6 → ⊥)
      → (k ≡ 7 → ⊥) → (k ≡ 8 → ⊥) → sound (row k d o p n x e w y v) ≡ right (row k d o p n x e w y v)
  unfolding right same kind_fields kind_in
  other k a b c f g h i j =
      rw (
        ne_eqb k 1 a,
        ne_eqb k 2 b,
        ne_eqb k 3 c,
        ne_eqb k 4 f,
        ne_eqb k 5 g,
        ne_eqb k 6 h,
        ne_eqb k 7 i,
        ne_eqb k 8 j,
        ne_eqb 1 k (λ l. a (sym l)),
      )

  each : (k : ℕ) → sound (row k d o p n x e w y v) ≡ right (row k d o p n x e w y v)
  each k =
      pick
      (ℕ_discrete k 1) (ℕ_discrete k 2) (ℕ_discrete k 3) (ℕ_discrete k 4) (ℕ_discrete k 5) (ℕ_discrete k 6) (ℕ_discrete k 7) (ℕ_discrete k 8)
    where
      at : (j : ℕ) → k ≡ j → sound (row j d o p n x e w y v) ≡ right (row j d o p n x e w y v) → sound (row k d o p n x e w y v) ≡ right (row k d o p n x e w y v)
      at j h = subst (λ (i : ℕ). sound (row i d o p n x e w y v) ≡ right (row i d o p n x e w y v)) (sym h)

      pick : Dec (k ≡ 1) → Dec (k ≡ 2) → Dec (k ≡ 3) → Dec (k ≡ 4) → Dec (k ≡ 5) → Dec (k ≡ 6) → Dec (k ≡ 7) → Dec (k ≡ 8)
          → sound (row k d o p n x e w y v) ≡ right (row k d o p n x e w y v)
      pick (yes h) b c f g i j l = at 1 h renew
      pick (no a) (yes h) c f g i j l = at 2 h grant
      pick (no a) (no b) (yes h) f g i j l = at 3 h invalidate
      pick (no a) (no b) (no c) (yes h) g i j l = at 4 h ack
      pick (no a) (no b) (no c) (no f) (yes h) i j l = at 5 h offer
      pick (no a) (no b) (no c) (no f) (no g) (yes h) j l = at 6 h dropped
      pick (no a) (no b) (no c) (no f) (no g) (no i) (yes h) l = at 7 h batch
      pick (no a) (no b) (no c) (no f) (no g) (no i) (no j) (yes h) = at 8 h cleared
      pick (no a) (no b) (no c) (no f) (no g) (no i) (no j) (no l) = other k a b c f g i j l

-- So a frame is accepted exactly when its fields are right.
pub asked : (f : Fields) → sound f ≡ right f
asked f = each f.client f.object f.present f.number f.volume_expiry f.epoch f.version f.object_expiry f.value f.kind
