-- Indices past the end are neither read nor written, so a sweep may stop at the end of the list.
use Prim.Native.Nat.{ℕ, zero, suc, ◌+◌, ◌-◌, ◌≤◌, ◌<◌}
use native.Mathlib.Omega.{arith}
use mathlib.Core.Bool.{Bool, true, false, ◌&&◌}
use mathlib.Core.List.{List, [], ◌∷◌}
use mathlib.Core.Logic.{⊎_elim}
use mathlib.Core.Path.{◌≡◌, refl, sym, ap, ◌∙◌}
use lib.ListN.{length, get_or, length-set}
use lib.Dec.{ltb, eqb}
use borrow.Author.Tests.{ltb-true, ltb-false}
use Rattle.laws.specs.Choice.{true_or_false}
use Rattle.std.specs.List.{list_all}
use Rattle.laws.specs.Loop.{fold_from, all_from}
use Rattle.laws.specs.Store.{pass_past}
use Rattle.protocol.specs.declared.records.Copy.{Copy}
use Rattle.protocol.specs.declared.setup.Setup.{Setup}
use Rattle.protocol.specs.declared.step.Sweep.{Sweep}
use Rattle.protocol.specs.Tables.{no_copy}
use Rattle.protocol.specs.Client.{swept, sweep_at, swept_all, sweeps}
use Rattle.client_sweeps.proofs.Laws.{stop_within, stop_end, stop_none}
use Rattle.client_sweeps.specs.Places.{stop_of}

module _ (s : Setup) (g : Sweep) (first : ℕ) where
  pass_cut : (l : List Copy) (j m n : ℕ) → m ≤ n → length l ≤ j + m → fold_from (sweep_at s g first) l j m ≡ fold_from (sweep_at s g first) l j n
  unfolding fold_from
  pass_cut l j zero n h k = sym (pass_past (λ m k. swept s g (get_or m k no_copy) (k - first)) l j n (omega arith))
  pass_cut l j (suc m) zero h k = absurd (omega arith)
  pass_cut l j (suc m) (suc n) h k = pass_cut (sweep_at s g first l j) (j + 1) m n (omega arith) (rw (length-set l j (swept s g (get_or l j no_copy) (j - first))) (omega arith))

  pub sweep_stops : (l : List Copy) → fold_from (sweep_at s g first) l first (stop_of first (sweeps g s.objects) (length l) - first) ≡ swept_all s g first l
  unfolding swept_all
  sweep_stops l =
      ⊎_elim
      (λ e. ⊎_elim (λ f. within (ltb-true _ _ e) (ltb-true _ _ f)) (λ f. cut (ltb-true _ _ e) (ltb-false _ _ f)) (true_or_false (ltb n (length l - first))))
      (λ e. none (ltb-false _ _ e))
      (true_or_false (ltb first (length l)))
    where
      n : ℕ
      n = sweeps g s.objects

      Same : ℕ → Type 0
      Same m = fold_from (sweep_at s g first) l first m ≡ fold_from (sweep_at s g first) l first n

      none : length l ≤ first → Same (stop_of first n (length l) - first)
      none h = rw (← stop_none first n (length l) h) (pass_cut l first (first - first) n (omega arith) (omega arith))

      within : first < length l → n < length l - first → Same (stop_of first n (length l) - first)
      within h k = rw (← stop_within first n (length l) h k) (ap (fold_from (sweep_at s g first) l first) (omega arith))

      cut : first < length l → length l - first ≤ n → Same (stop_of first n (length l) - first)
      cut h k = rw (← stop_end first n (length l) h k) (pass_cut l first (length l - first) n k (omega arith))

-- a test of each record of a list, as a pass over the list's indices
module _ {A : Type 0} (p : A → Bool) (d : A) where
  all_shifted : (l : List A) (q : ℕ → Bool) (j : ℕ) → ((k : ℕ) → k < length l → q (j + k) ≡ p (get_or l k d)) → list_all p l ≡ all_from q j (length l)
  unfolding all_from
  all_shifted [] q j h = refl
  all_shifted (x ∷ l) q j h =
      let e : q j ≡ p x = ap q (omega arith) ∙ h 0 (omega arith) in
      let f : list_all p l ≡ all_from q (j + 1) (length l) = all_shifted l q (j + 1) (λ k i. ap q (omega arith) ∙ h (suc k) (omega arith)) in
      rw (e, f)

  pub all_listed : (l : List A) → list_all p l ≡ all_from (λ k. p (get_or l k d)) 0 (length l)
  all_listed l = all_shifted l (λ k. p (get_or l k d)) 0 (λ k i. ap (λ n. p (get_or l n d)) (omega arith))

  module _ (l : List A) (n : ℕ) (b : Bool) (e : b ≡ eqb (length l) n) where
    -- as many records as there should be
    pub counted_yes : (r : Bool) → b ≡ true → r ≡ list_all p l → r ≡ (eqb (length l) n && all_from (λ k. p (get_or l k d)) 0 (length l))
    counted_yes r f g = rw (sym e ∙ f) (g ∙ all_listed l)

    -- more or fewer
    pub counted_no : b ≡ false → b ≡ (eqb (length l) n && all_from (λ k. p (get_or l k d)) 0 (length l))
    counted_no f = rw (sym e ∙ f) f
