-- The set of a volume's objects, as a loop over the objects makes it.
use Prim.Native.Nat.{ℕ, zero, suc, ◌+◌, ◌-◌, ◌<◌, ◌≤◌}
use native.Mathlib.Nat.{add-zero}
use native.Mathlib.Omega.{arith}
use mathlib.Core.Bool.{Bool, true, false, cond}
use mathlib.Core.Path.{◌≡◌, refl, sym, ap, ◌∙◌}
use lib.Dec.{eqb}
use borrow.Author.Tests.{lt-ltb, le-ltb}
use Rattle.laws.specs.Sets.{set_of, added, within, within_none, set_again}
use Rattle.protocol.specs.declared.setup.Setup.{Setup}
use Rattle.protocol.specs.Setup.{in_range, volume_of, in_volume, objects_in}
use Rattle.protocol.proofs.Ranges.{ranges}
use Rattle.protocol.specs.Sound.{set_sound}

-- a set does not grow by numbers that do not pass
none_more : (p : ℕ → Bool) (n g : ℕ) → n + g ≤ 32 → ((k : ℕ) → n ≤ k → p k ≡ false) → set_of p n ≡ set_of p (n + g)
none_more p n zero h f = ap (set_of p) (sym (add-zero n))
none_more p n (suc g) h f =
    none_more p n g (omega arith) f ∙ set_again p (n + g) (omega arith) _ _ false refl (sym (f (n + g) (omega arith))) refl ∙ ap (set_of p) (omega arith)

module _ (s : Setup) (v : ℕ) where
  pub object_again : (k m u : ℕ) → in_range s ≡ true → k < s.objects → m ≡ set_of (in_volume s v) k → u ≡ cond (eqb (volume_of s k) v) (added m k) m
      → u ≡ set_of (in_volume s v) (k + 1)
  object_again k m u i h a b = set_again (in_volume s v) k (omega (arith, (ranges s i).objects.1)) m u (eqb (volume_of s k) v) a (rw (lt-ltb k s.objects h)) b

  pub objects_end : (k m : ℕ) → in_range s ≡ true → k ≤ s.objects → s.objects ≤ k → m ≡ set_of (in_volume s v) k → m ≡ objects_in s v
  unfolding objects_in
  objects_end k m i h g e =
      e ∙ none_more (in_volume s v) k (32 - k) (omega (arith, (ranges s i).objects.1)) (λ j l. rw (le-ltb j s.objects (omega arith)))
      ∙ ap (set_of (in_volume s v)) (omega (arith, (ranges s i).objects.1))

  pub none_sound : (m : ℕ) → m ≡ 0 → true ≡ set_sound s v m
  none_sound m e = rw e (sym (within_none (objects_in s v)))

  pub some_sound : (m n : ℕ) (r : Bool) → n ≡ objects_in s v → r ≡ within m n → r ≡ set_sound s v m
  some_sound m n r a b = b ∙ ap (within m) a
