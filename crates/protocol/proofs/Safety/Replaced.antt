-- One object's fields replaced in a list: what stands there afterwards, and that all else stays.
use Rattle.std.specs.Prelude.{ℕ, ◌<◌, List, ◌≡◌, refl, length, get_or, set}
use Rattle.std.proofs.Common.{arith, get_or-set_same, get_or-set_other}
use Rattle.laws.specs.Store.{store_each, always, store_hit, store_other}
use Rattle.protocol.specs.declared.setup.Setup.{Setup}
use Rattle.protocol.specs.Tables.{by_object}
use Rattle.protocol.specs.Ranges.{Ranges}
use Rattle.protocol.specs.Safety.Replaced.{Replaced, ReplacedFor}

-- at a number equal to o
pub here_at : {A : Type 0} {o : ℕ} {x y : A} {l l' : List A} → Replaced o x y l l' → (k : ℕ) → k ≡ o → get_or l' k y ≡ x
here_at r k q = rw q r.here

pub here_for : {A : Type 0} {s : Setup} {o : ℕ} {x : ℕ → A} {y : A} {l l' : List A} → ReplacedFor s o x y l l' → (d k : ℕ) → d < s.clients → k ≡ o
    → get_or l' (by_object d k) y ≡ x d
here_for r d k h q = rw q (r.here d h)

pub set_replaced : {A : Type 0} (l : List A) (o : ℕ) (x y : A) → o < length l → Replaced o x y l (set l o x)
set_replaced l o x y h = record { here = get_or-set_same l o x y h; other = λ k n. get_or-set_other l o k x y n }

pub store_replaced : {A : Type 0} (s : Setup) (l : List A) (o : ℕ) (x : ℕ → A) (y : A) → Ranges s → length l ≡ 512 → o < s.objects
    → ReplacedFor s o x y l (store_each always (λ (d : ℕ). by_object d o) x l s.clients)
store_replaced s l o x y range n h = record {
  here = λ d hd. store_hit always (λ (d : ℕ). by_object d o) x (λ a b e. omega arith) l s.clients d y hd refl (omega arith);
  other = λ d k hk ne. store_other always (λ (d : ℕ). by_object d o) x l s.clients (by_object d k) y (λ c hc _ e. ne (omega arith));
}
