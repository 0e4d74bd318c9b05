-- Fields per client and volume, per client and object, and the clients' copies: what stands there after a store, and what fresh lists hold.
use Rattle.std.specs.Prelude.{ℕ, ◌+◌, ◌*◌, ◌<◌, Bool, true, false, List, ◌⊎◌, ◌≡◌, length, get_or, set, replicate}
use Rattle.std.proofs.Math.Decide.{dec_lt}
use Rattle.std.proofs.Common.{mul-le-mul_right, suc-mul, arith, inl, inr, ⊎_elim, ap, ◌∙◌, eq-eqb, ne_eqb}
use Rattle.std.proofs.lemmas.List.{get_or-replicate}
use Rattle.laws.specs.Choice.{true_or_false, not_both, same?, and_yes, and_no}
use Rattle.laws.specs.Store.{set_at, store_each, store_hit, store_other}
use Rattle.laws.specs.Sets.{bit_at, removed, bit_removed}
use Rattle.protocol.specs.declared.records.Copy.{Copy}
use Rattle.protocol.specs.declared.setup.Setup.{Setup}
use Rattle.protocol.specs.Tables.{by_volume, by_object, no_copy}
use Rattle.protocol.specs.Safety.View.{copy_at}
use Rattle.protocol.specs.Ranges.{Ranges}
use Rattle.protocol.specs.Safety.Stores.{After, AfterEach}

-- .. where it is known which of the two
pub at_place {ℓ} : {A : Type ℓ} {d v k u : ℕ} {got new old : A} → After d v k u got new old → k ≡ d → u ≡ v → got ≡ new
at_place a p q = ⊎_elim (λ b. b.2) (λ b. absurd (b.0 p q)) a

pub off_place {ℓ} : {A : Type ℓ} {d v k u : ℕ} {got new old : A} → After d v k u got new old → (k ≡ d → u ≡ v → ⊥) → got ≡ old
off_place a h = ⊎_elim (λ b. absurd (h b.0 b.1)) (λ b. b.1) a

-- rows of n: the places of two rows do not meet
pub row_below : (n d k o : ℕ) → d < k → o < n → d * n + o < k * n
row_below n d k o h b =
    let l = mul-le-mul_right n h in
    let q = suc-mul d n in
    omega arith

row_same : (n d o k i : ℕ) → o < n → i < n → d * n + o ≡ k * n + i → (d ≡ k) × (o ≡ i)
row_same n d o k i h b q = go (dec_lt d k) (dec_lt k d)
  where
    go : Dec (d < k) → Dec (k < d) → (d ≡ k) × (o ≡ i)
    go (yes a) c = let r = row_below n d k o a h in absurd (omega arith)
    go (no a) (yes c) = let r = row_below n k d i c b in absurd (omega arith)
    go (no a) (no c) = let r : d ≡ k = omega arith in (r, same r)
      where
        same : d ≡ k → o ≡ i
        same r = let q' = rw r at q in omega arith

-- ---- existing items are in their tables
module _ {s : Setup} (range : Ranges s) where
  pub client_fits : {d : ℕ} → d < s.clients → d < 16
  client_fits h = let b = range.clients.1 in omega arith

  pub volume_fits_law : {v : ℕ} → v < s.volumes → v < 8
  volume_fits_law h = let b = range.volumes.1 in omega arith

  pub object_fits : {o : ℕ} → o < s.objects → o < 32
  object_fits h = let b = range.objects.1 in omega arith

  session_fits : {d v : ℕ} → d < s.clients → v < s.volumes → by_volume d v < 128
  session_fits h k = let a = range.clients.1 in let b = range.volumes.1 in omega arith

  holder_fits : {d o : ℕ} → d < s.clients → o < s.objects → by_object d o < 512
  holder_fits h k = let a = range.clients.1 in let b = range.objects.1 in omega arith

  -- .. where a list of one value holds it
  pub zero_session : (d v : ℕ) → d < s.clients → v < s.volumes → ◌≡◌ {A = ℕ} (get_or (replicate 128 0) (by_volume d v) 0) 0
  zero_session d v hd hv = get_or-replicate {A = ℕ} 128 (by_volume d v) 0 0 (session_fits hd hv)

  pub zero_holder : (d o : ℕ) → d < s.clients → o < s.objects → ◌≡◌ {A = ℕ} (get_or (replicate 512 0) (by_object d o) 0) 0
  zero_holder d o hd ho = get_or-replicate {A = ℕ} 512 (by_object d o) 0 0 (holder_fits hd ho)

  pub nothing_stands : {A : Type 0} (o : ℕ) → o < s.objects → get_or (replicate 32 false) o false ≡ true → A
  nothing_stands o h e = not_both e (get_or-replicate {A = Bool} 32 o false false (object_fits h))

  -- ---- a store at a client and a volume, or at a client and an object
  module _ {d : ℕ} (hd : d < s.clients) where
    pub volume_set {ℓ} : {A : Type ℓ} {v : ℕ} → v < s.volumes → (l : List A) (x y : A) → length l ≡ 128 → (k u : ℕ) → u < s.volumes
        → After d v k u (get_or (set l (by_volume d v) x) (by_volume k u) y) x (get_or l (by_volume k u) y)
    volume_set {v} hv l x y n k u hu =
        let b = volume_fits_law hv in
        let a = volume_fits_law hu in
        let r = session_fits hd hv in
        ⊎_elim (λ a. inl (omega (arith, a.0), omega (arith, a.0), a.1)) (λ a. inr (λ p q. a.0 (omega arith), a.1))
        (set_at l (by_volume d v) x (by_volume k u) y (omega arith))

    pub object_set {ℓ} : {A : Type ℓ} {o : ℕ} → o < s.objects → (l : List A) (x y : A) → length l ≡ 512 → (k i : ℕ) → i < s.objects
        → After d o k i (get_or (set l (by_object d o) x) (by_object k i) y) x (get_or l (by_object k i) y)
    object_set {o} ho l x y n k i hi =
        let b = object_fits ho in
        let a = object_fits hi in
        let r = holder_fits hd ho in
        ⊎_elim (λ a. inl (omega (arith, a.0), omega (arith, a.0), a.1)) (λ a. inr (λ p q. a.0 (omega arith), a.1))
        (set_at l (by_object d o) x (by_object k i) y (omega arith))

    -- a store at a client and each object that passes
    objects_hit : {A : Type 0} (p : ℕ → Bool) (l : List A) (x y : A) → length l ≡ 512 → (i : ℕ) → i < s.objects → p i ≡ true
        → get_or (store_each p (by_object d) (λ (o : ℕ). x) l s.objects) (by_object d i) y ≡ x
    objects_hit p l x y n i h e =
        let r = holder_fits hd h in
        store_hit p (by_object d) (λ (o : ℕ). x) (λ i j z. omega arith) l s.objects i y h e (omega arith)

    objects_off : {A : Type 0} (p : ℕ → Bool) (l : List A) (x y : A) (k i : ℕ) → i < s.objects → (k ≡ d → p i ≡ true → ⊥)
        → get_or (store_each p (by_object d) (λ (o : ℕ). x) l s.objects) (by_object k i) y ≡ get_or l (by_object k i) y
    objects_off p l x y k i h ne =
        let a = object_fits h in
        store_other p (by_object d) (λ (o : ℕ). x) l s.objects (by_object k i) y
        (λ j g c z. let b = object_fits g in let r : k ≡ d = omega arith in let q : i ≡ j = omega arith in ne r (ap p q ∙ c))

    pub objects_set : {A : Type 0} (p : ℕ → Bool) (l : List A) (x y : A) → length l ≡ 512 → (k i : ℕ) → i < s.objects
        → AfterEach d p k i (get_or (store_each p (by_object d) (λ (o : ℕ). x) l s.objects) (by_object k i) y) x (get_or l (by_object k i) y)
    objects_set p l x y n k i h =
        ⊎_elim
        (λ q. ⊎_elim (λ e. inl (q, e, rw q (objects_hit p l x y n i h e))) (λ e. inr (λ a b. not_both b e, objects_off p l x y k i h (λ a b. not_both b e))) (true_or_false (p i)))
        (λ q. inr (λ a b. q a, objects_off p l x y k i h (λ a b. q a)))
        (same? k d)

-- ---- a client taken out of the set of one object
pub client_removed : {s : Setup} → Ranges s → (m d k : ℕ) → k < s.clients → ((k ≡ d) × (bit_at (removed m d) k ≡ false)) ⊎ ((k ≡ d → ⊥) × (bit_at (removed m d) k ≡ bit_at m k))
client_removed range m d k hk =
    let a = client_fits range hk in
    let b = bit_removed m d k (omega arith) in
    ⊎_elim (λ q. inl (q, b ∙ rw (eq-eqb k d q) (and_no (bit_at m k)))) (λ q. inr (q, b ∙ rw (ne_eqb k d q) (and_yes (bit_at m k)))) (same? k d)

-- ---- a copy stored

-- a field of a copy
pub same_version_law : {a b : Copy} → a ≡ b → a.version ≡ b.version
same_version_law e = ap (λ (c : Copy). c.version) e

pub same_expiry : {a b : Copy} → a ≡ b → a.expiry ≡ b.expiry
same_expiry e = ap (λ (c : Copy). c.expiry) e

pub copy_set : (s : Setup) {d o : ℕ} → d < s.clients → o < s.objects → (copies : List Copy) (x : Copy) → length copies ≡ s.clients * s.objects → (k i : ℕ) → i < s.objects
    → After d o k i (copy_at s (set copies (d * s.objects + o) x) k i) x (copy_at s copies k i)
copy_set s {d} {o} hd ho copies x n k i hi =
    let b = row_below s.objects d s.clients o hd ho in
    ⊎_elim (λ a. let r = row_same s.objects k i d o hi ho a.0 in inl (r.0, r.1, a.1)) (λ a. inr (λ p q. a.0 (rw (p, q)), a.1))
    (set_at copies (d * s.objects + o) x (k * s.objects + i) no_copy (omega arith))
