-- Removing a row from the list.
use Prim.Native.Nat.{ℕ, ◌+◌, ◌*◌, ◌-◌, ◌<◌, ◌≤◌}
use native.Mathlib.Omega.{arith}
use mathlib.Core.Bool.{true, false}
use mathlib.Core.Logic.{◌⊎◌, inl, inr}
use mathlib.Core.List.{List, [], ◌∷◌, ◌++◌}
use mathlib.Core.Path.{◌≡◌, sym, ap, ◌∙◌}
use lib.Dec.{ltb}
use lib.ListN.{length, get_or}
use borrow.Author.Tests.{ltb-true, ltb-false}
use Rattle.laws.specs.Choice.{true_or_false}
use Rattle.laws.specs.Lists.{remove_at}
use Rattle.laws.specs.Shift.{shifted, shifted_before, shifted_in}
use Rattle.laws.specs.Tabulate.{tabulate, tabulate_remove}
use Rattle.protocol.specs.declared.message.Message.{Message}
use Rattle.protocol.specs.Messages.{blank}
use Rattle.state_words.specs.Rows.{message_from}
use Rattle.network_rows.proofs.Places.{message_same, at_in, at_past}

-- removing row i of the first n
module _ (n : ℕ) (l v : List ℕ) (i : ℕ) (h : i < n) (g : n ≤ 64) (a : length l ≡ 576) (b : length v ≡ 64) where
  abbrev rows_left : List ℕ
  rows_left = shifted (i * 9) ((n - (i + 1)) * 9) 9 l

  abbrev values_left : List ℕ
  values_left = shifted i (n - (i + 1)) 1 v

  next : (j k : ℕ) → j * 9 + k + 9 ≡ (j + 1) * 9 + k
  next j k = omega arith

  below : (j : ℕ) → j < i → message_from (n - 1) rows_left values_left j ≡ message_from n l v j
  below j p =
      at_in (n - 1) rows_left values_left j (omega arith)
      ∙ message_same _ _ _ _ j j (λ k c. shifted_before (i * 9) ((n - (i + 1)) * 9) 9 l (j * 9 + k) (omega arith)) (shifted_before i (n - (i + 1)) 1 v j p)
      ∙ sym (at_in n l v j (omega arith))

  above : (j : ℕ) → i ≤ j → (ltb j (n - 1) ≡ true) ⊎ (ltb j (n - 1) ≡ false) → message_from (n - 1) rows_left values_left j ≡ message_from n l v (j + 1)
  above j p (inl t) =
      let u = ltb-true j (n - 1) t in
      at_in (n - 1) rows_left values_left j u
      ∙ message_same _ _ _ _ j (j + 1)
      (λ k c. shifted_in (i * 9) ((n - (i + 1)) * 9) 9 l (j * 9 + k) (omega arith) (omega arith) (omega arith) ∙ ap (λ (q : ℕ). get_or l q 0) (next j k))
      (shifted_in i (n - (i + 1)) 1 v j p (omega arith) (omega arith))
      ∙ sym (at_in n l v (j + 1) (omega arith))
  above j p (inr t) =
      let u = ltb-false j (n - 1) t in
      at_past (n - 1) rows_left values_left j u ∙ sym (at_past n l v (j + 1) (omega arith))

  pub items_remove : tabulate (message_from (n - 1) (shifted (i * 9) ((n - (i + 1)) * 9) 9 l) (shifted i (n - (i + 1)) 1 v)) 0 64 ≡ remove_at (tabulate (message_from n l v) 0 64) i ++ (blank ∷ [])
  items_remove =
      tabulate_remove (message_from n l v) _ 0 63 i (omega arith) (λ j p q. below j (omega arith)) (λ j p q. above j (omega arith) (true_or_false (ltb j (n - 1))))
      ∙ ap (λ (m : Message). remove_at (tabulate (message_from n l v) 0 64) i ++ (m ∷ [])) (at_past n l v 64 g)
