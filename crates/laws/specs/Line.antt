-- States that are saved under names and returned to. The line of a state is what leads to it from the start: a return leaves out what came after the save.
-- Letters: a and b states, k a present state with the saved ones, u what is saved under a name, n a name, m how many names there are, f and g how a state
-- goes on, x what it goes on by, e an act, l a line.
use Rattle.std.specs.Prelude.{ℕ, zero, suc, ◌<◌, ◌≡◌, length, get_or, set, replicate}
use mathlib.Core.List.{List, [], ◌∷◌, ◌++◌, map}
use Rattle.std.proofs.Math.Path.{refl, ap}
use Rattle.std.proofs.Common.{sym, ◌∙◌, length-set, get_or-set_other}
use Rattle.std.proofs.Math.ListN.{get_or-map}
use Rattle.std.proofs.Math.Seq.{get_or-set_same}
use Rattle.laws.specs.Lists.{All, all_snoc}
use Rattle.laws.specs.Each.{each_set, each_get_d, each_replicate}

-- what is under a name: nothing was ever saved there, or a state
pub data Saved {ℓ} (A : Type ℓ) : Type ℓ where
  never : Saved A
  state : A → Saved A

-- the present state, and what is saved under each name
pub record Kept {ℓ} (A : Type ℓ) : Type ℓ where
  pub now : A
  pub saved : List (Saved A)

-- what is done with them: the state goes on by x, it is saved under a name, the one under a name comes back, or nothing is done
pub data Act {ℓ} (X : Type ℓ) : Type ℓ where
  go : X → Act X
  save : ℕ → Act X
  back : ℕ → Act X
  idle : Act X

module _ {ℓ} {A : Type ℓ} where
  abbrev pub start : ℕ → A → Kept A
  start m a = record { now = a; saved = replicate m never }

  abbrev pub saved_under : Kept A → ℕ → Saved A
  saved_under k n = get_or k.saved n never

  -- the state that is saved, or a where none is
  abbrev pub state_or : A → Saved A → A
  state_or a never = a
  state_or a (state b) = b

module _ {ℓ κ} {A : Type ℓ} {X : Type κ} (f : A → X → A) where
  abbrev pub follow : Kept A → Act X → Kept A
  follow k (go x) = record { now = f k.now x; saved = k.saved }
  follow k (save n) = record { now = k.now; saved = set k.saved n (state k.now) }
  follow k (back n) = record { now = state_or k.now (saved_under k n); saved = k.saved }
  follow k idle = k

  unfoldable pub along : Kept A → List (Act X) → Kept A
  along k [] = k
  along k (e ∷ es) = along (follow k e) es

  -- a state that only goes on
  unfoldable pub made : A → List X → A
  made a [] = a
  made a (x ∷ l) = made (f a x) l

  pub made_snoc : (a : A) (l : List X) (x : X) → made a (l ++ (x ∷ [])) ≡ f (made a l) x
  unfolding made
  made_snoc a [] x = refl
  made_snoc a (y ∷ l) x = made_snoc (f a y) l x

-- ---- the line of the present state, and of each saved one
abbrev pub longer {ℓ} : {X : Type ℓ} → List X → X → List X
longer l x = l ++ (x ∷ [])

abbrev pub lines {ℓ} : {X : Type ℓ} → ℕ → List (Act X) → Kept (List X)
lines m es = along longer (start m []) es

-- ---- what follows from states alike: h makes the one of the other
module _ {ℓ κ} {A : Type ℓ} {B : Type κ} (h : A → B) where
  abbrev pub saved_as : Saved A → Saved B
  saved_as never = never
  saved_as (state a) = state (h a)

  abbrev pub kept_as : Kept A → Kept B
  kept_as k = record { now = h k.now; saved = map saved_as k.saved }

  map_set : (l : List (Saved A)) (n : ℕ) (u : Saved A) → map saved_as (set l n u) ≡ set (map saved_as l) n (saved_as u)
  map_set [] n u = refl
  map_set (y ∷ l) zero u = refl
  map_set (y ∷ l) (suc n) u = ap (◌∷◌ (saved_as y)) (map_set l n u)

  state_as : (a : A) (u : Saved A) → h (state_or a u) ≡ state_or (h a) (saved_as u)
  state_as a never = refl
  state_as a (state b) = refl

  map_start : (m : ℕ) → map saved_as (replicate m never) ≡ replicate m never
  map_start zero = refl
  map_start (suc m) = ap (◌∷◌ never) (map_start m)

  pub under_as : (k : Kept A) (n : ℕ) → saved_under (kept_as k) n ≡ saved_as (saved_under k n)
  under_as k n = get_or-map saved_as k.saved n never

  pub start_as : (m : ℕ) (a : A) → kept_as (start m a) ≡ start m (h a)
  start_as m a = ap (λ (l : List (Saved B)). record { now = h a; saved = l }) (map_start m)

-- h and then g, where that is j
module _ {ℓ κ μ} {A : Type ℓ} {B : Type κ} {C : Type μ} (h : A → B) (g : B → C) (j : A → C) (same : (a : A) → g (h a) ≡ j a) where
  saved_twice : (l : List (Saved A)) → map (saved_as g) (map (saved_as h) l) ≡ map (saved_as j) l
  saved_twice [] = refl
  saved_twice (never ∷ l) = ap (◌∷◌ never) (saved_twice l)
  saved_twice (state a ∷ l) = rw (same a) (ap (◌∷◌ (state (j a))) (saved_twice l))

  pub as_twice : (k : Kept A) → kept_as g (kept_as h k) ≡ kept_as j k
  as_twice k = λ i. record { now = same k.now i; saved = saved_twice k.saved i }

module _ {ℓ κ μ} {A : Type ℓ} {B : Type κ} {X : Type μ} (h : A → B) (f : A → X → A) (g : B → X → B) (same : (a : A) (x : X) → h (f a x) ≡ g (h a) x) where
  pub follow_as : (k : Kept A) (e : Act X) → kept_as h (follow f k e) ≡ follow g (kept_as h k) e
  follow_as k (go x) = ap (λ (b : B). record { now = b; saved = map (saved_as h) k.saved }) (same k.now x)
  follow_as k (save n) = ap (λ (l : List (Saved B)). record { now = h k.now; saved = l }) (map_set h k.saved n (state k.now))
  follow_as k (back n) =
      ap (λ (b : B). record { now = b; saved = map (saved_as h) k.saved })
      (state_as h k.now (saved_under k n) ∙ rw (under_as h k n))
  follow_as k idle = refl

  pub along_as : (es : List (Act X)) (k : Kept A) → kept_as h (along f k es) ≡ along g (kept_as h k) es
  unfolding along
  along_as [] k = refl
  along_as (e ∷ es) k = along_as es (follow f k e) ∙ ap (λ (b : Kept B). along g b es) (follow_as k e)

-- The present state, and each saved one, is what its line makes of the start.
pub of_line {ℓ κ} : {A : Type ℓ} {X : Type κ} (f : A → X → A) (a : A) (m : ℕ) (es : List (Act X)) → along f (start m a) es ≡ kept_as (made f a) (lines m es)
unfolding made
of_line f a m es =
    sym (along_as (made f a) longer f (made_snoc f a) es (start m []) ∙ ap (λ (k : Kept _). along f k es) (start_as (made f a) m []))

-- ---- A return gives the state in which its name was last saved. (`of_line` alone says no more than that states and lines go alike.)
-- acts other than a save under n
abbrev pub Elsewhere {ℓ} : {X : Type ℓ} → ℕ → Act X → Type 0
Elsewhere n (go x) = Unit
Elsewhere n (save m) = m ≡ n → ⊥
Elsewhere n (back m) = Unit
Elsewhere n idle = Unit

module _ {ℓ κ} {A : Type ℓ} {X : Type κ} (f : A → X → A) where
  pub along_on : (k : Kept A) (es gs : List (Act X)) → along f k (es ++ gs) ≡ along f (along f k es) gs
  unfolding along
  along_on k [] gs = refl
  along_on k (e ∷ es) gs = along_on (follow f k e) es gs

  length_follow : (k : Kept A) (e : Act X) → length (follow f k e).saved ≡ length k.saved
  length_follow k (go x) = refl
  length_follow k (save n) = length-set k.saved n (state k.now)
  length_follow k (back n) = refl
  length_follow k idle = refl

  -- there are as many names as at the start
  pub length_along : (k : Kept A) (es : List (Act X)) → length (along f k es).saved ≡ length k.saved
  unfolding along
  length_along k [] = refl
  length_along k (e ∷ es) = length_along (follow f k e) es ∙ length_follow k e

  under_follow : (n : ℕ) (k : Kept A) (e : Act X) → Elsewhere n e → saved_under (follow f k e) n ≡ saved_under k n
  under_follow n k (go x) h = refl
  under_follow n k (save m) h = get_or-set_other k.saved m n (state k.now) never (λ q. h (sym q))
  under_follow n k (back m) h = refl
  under_follow n k idle h = refl

  pub under_along : (n : ℕ) (k : Kept A) (es : List (Act X)) → All (Elsewhere n) es → saved_under (along f k es) n ≡ saved_under k n
  unfolding along All
  under_along n k [] h = refl
  under_along n k (e ∷ es) h = under_along n (follow f k e) es h.1 ∙ under_follow n k e h.0

  -- what is saved under n stays there ..
  pub saved_stays : (k : Kept A) (es : List (Act X)) (n : ℕ) → n < length k.saved → All (Elsewhere n) es → saved_under (along f k (save n ∷ es)) n ≡ state k.now
  unfolding along
  saved_stays k es n h q = under_along n (follow f k (save n)) es q ∙ get_or-set_same k.saved n (state k.now) never h

  -- .. and comes back
  pub returned : (k : Kept A) (es : List (Act X)) (n : ℕ) → n < length k.saved → All (Elsewhere n) es → (along f k ((save n ∷ es) ++ (back n ∷ []))).now ≡ k.now
  unfolding along
  returned k es n h q =
      ap (λ (r : Kept A). r.now) (along_on k (save n ∷ es) (back n ∷ [])) ∙ ap (state_or (along f k (save n ∷ es)).now) (saved_stays k es n h q)

-- ---- what holds of the present state and of each saved one
module _ {ℓ κ} {A : Type ℓ} (P : A → Type κ) where
  abbrev pub OfSaved : Saved A → Type κ
  OfSaved never = Unit
  OfSaved (state a) = P a

  pub record OfEach (k : Kept A) : Type κ where
    pub now : P k.now
    pub saved : All OfSaved k.saved

  pub each_start : (m : ℕ) (a : A) → P a → OfEach (start m a)
  each_start m a p = record { now = p; saved = each_replicate OfSaved m never tt }

  pub each_under : (k : Kept A) (n : ℕ) → OfEach k → OfSaved (saved_under k n)
  each_under k n h = each_get_d OfSaved k.saved n never h.saved tt

  of_state_or : (a : A) (u : Saved A) → P a → OfSaved u → P (state_or a u)
  of_state_or a never p q = p
  of_state_or a (state b) p q = q

  -- only where the present state goes on has it to be kept
  abbrev pub Keeps {μ} : {X : Type μ} → (A → X → A) → Kept A → Act X → Type κ
  Keeps f k (go x) = P k.now → P (f k.now x)
  Keeps f k (save n) = Unit
  Keeps f k (back n) = Unit
  Keeps f k idle = Unit

  pub each_follow {μ} : {X : Type μ} (f : A → X → A) (k : Kept A) (e : Act X) → Keeps f k e → OfEach k → OfEach (follow f k e)
  each_follow f k (go x) p h = record { now = p h.now; saved = h.saved }
  each_follow f k (save n) p h = record { now = h.now; saved = each_set OfSaved k.saved n (state k.now) h.saved h.now }
  each_follow f k (back n) p h = record { now = of_state_or k.now (saved_under k n) h.now (each_under k n h); saved = h.saved }
  each_follow f k idle p h = h

-- what h makes of anything
pub each_as {ℓ κ μ} : {A : Type ℓ} {B : Type κ} (P : B → Type μ) (h : A → B) → ((a : A) → P (h a)) → (k : Kept A) → OfEach P (kept_as h k)
unfolding All
each_as {A = A} P h p k = record { now = p k.now; saved = all k.saved }
  where
    one : (u : Saved A) → OfSaved P (saved_as h u)
    one never = tt
    one (state a) = p a

    all : (l : List (Saved A)) → All (OfSaved P) (map (saved_as h) l)
    all [] = tt
    all (u ∷ l) = (one u, all l)

-- ---- what holds of all that states go on by holds of every element of every line
module _ {ℓ κ} {X : Type ℓ} (P : X → Type κ) where
  abbrev pub OfAct : Act X → Type κ
  OfAct (go x) = P x
  OfAct (save n) = Unit
  OfAct (back n) = Unit
  OfAct idle = Unit

  keeps_longer : (k : Kept (List X)) (e : Act X) → OfAct e → Keeps (All P) longer k e
  keeps_longer k (go x) p = λ h. all_snoc P k.now x h p
  keeps_longer k (save n) p = tt
  keeps_longer k (back n) p = tt
  keeps_longer k idle p = tt

  among_from : (es : List (Act X)) (k : Kept (List X)) → All OfAct es → OfEach (All P) k → OfEach (All P) (along longer k es)
  unfolding along All
  among_from [] k p h = h
  among_from (e ∷ es) k p h = among_from es (follow longer k e) p.1 (each_follow (All P) longer k e (keeps_longer k e p.0) h)

  pub lines_among : (m : ℕ) (es : List (Act X)) → All OfAct es → OfEach (All P) (lines m es)
  unfolding All
  lines_among m es p = among_from es (start m []) p (each_start (All P) m [] tt)
