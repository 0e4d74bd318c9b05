-- Storing a row at the end of the list.
use Prim.Native.Nat.{ℕ, ◌+◌, ◌*◌, ◌%◌, ◌<◌}
use native.Mathlib.Omega.{arith}
use mathlib.Core.Bool.{true, false}
use mathlib.Core.Logic.{◌⊎◌, inl, inr}
use mathlib.Core.List.{List}
use mathlib.Core.Path.{◌≡◌, refl, sym, ◌∙◌}
use lib.Dec.{ltb}
use lib.ListN.{length, get_or, set}
use lib.Seq.{get_or-set_same, get_or-set_other}
use borrow.Author.Tests.{lt-ltb, ltb-true, ltb-false}
use Rattle.laws.specs.Choice.{true_or_false}
use Rattle.laws.specs.Store.{store_each, always, store_hit, store_other}
use Rattle.laws.specs.Tabulate.{tabulate, tabulate_set}
use Rattle.protocol.specs.declared.message.Message.{Message}
use Rattle.message_fields.specs.declared.Fields.{Fields}
use Rattle.message_fields.specs.Fields.{fields_of}
use Rattle.message_fields.proofs.Round.{message_back, message_sound_law}
use Rattle.state_words.specs.Rows.{words_of, Narrow, fields_at, narrow_at, message_of, message_from}
use Rattle.network_rows.proofs.Places.{message_same, at_in, at_past}

-- a row with the words of f reads as the fields f
row_is : (a v : List ℕ) (i : ℕ) (f : Fields) → Narrow f → ((k : ℕ) → k < 9 → get_or a (i * 9 + k) 0 ≡ get_or (words_of f) k 0) → get_or v i 0 ≡ f.value → fields_at a v i ≡ f
unfolding fields_at
row_is a v i f n h e =
    rw (
      h 0 (omega arith),
      h 1 (omega arith),
      h 2 (omega arith),
      h 3 (omega arith),
      h 4 (omega arith),
      h 5 (omega arith),
      h 6 (omega arith),
      h 7 (omega arith),
      h 8 (omega arith),
      e,
      byte f.kind n.0,
      byte f.client n.1,
      byte f.object n.2,
      byte f.present n.3,
    )
  where
    byte : (x : ℕ) → x < 256 → x % 256 ≡ x
    byte x h = omega arith

-- .. and so as the message with these fields
message_is : (a v : List ℕ) (i : ℕ) (m : Message) (f : Fields) → f ≡ fields_of m → Narrow f
    → ((k : ℕ) → k < 9 → get_or a (i * 9 + k) 0 ≡ get_or (words_of f) k 0) → get_or v i 0 ≡ f.value → message_of a v i ≡ m
unfolding message_of narrow_at
message_is a v i m f e n h g =
    rw (
      row_is a v i f n h g,
      h 0 (omega arith),
      h 1 (omega arith),
      h 2 (omega arith),
      h 3 (omega arith),
      lt-ltb f.kind 256 n.0,
      lt-ltb f.client 256 n.1,
      lt-ltb f.object 256 n.2,
      lt-ltb f.present 256 n.3,
      e,
      message_sound_law m,
      message_back m,
    )

-- storing the row of message m at place i
module _ (l v : List ℕ) (i : ℕ) (m : Message) (f : Fields) (h : i < 64) (a : length l ≡ 576) (b : length v ≡ 64) (n : Narrow f) (e : f ≡ fields_of m) where
  abbrev with_row : List ℕ
  with_row = store_each always (λ (k : ℕ). i * 9 + k) (λ (k : ℕ). get_or (words_of f) k 0) l 9

  other : (j : ℕ) → (j ≡ i → ⊥) → message_of with_row (set v i f.value) j ≡ message_of l v j
  other j r =
      message_same _ _ _ _ j j
      (λ k c. store_other always (λ (k : ℕ). i * 9 + k) (λ (k : ℕ). get_or (words_of f) k 0) l 9 (j * 9 + k) 0 (λ d s t u. r (omega arith)))
      (get_or-set_other v i j f.value 0 (λ s. r (omega arith)))

  own : message_of with_row (set v i f.value) i ≡ m
  own =
      message_is _ _ i m f e n
      (λ k c. store_hit always (λ (k : ℕ). i * 9 + k) (λ (k : ℕ). get_or (words_of f) k 0) (λ a b c. omega arith) l 9 k 0 c refl (omega arith))
      (get_or-set_same v i f.value 0 (omega arith))

  pub items_set : tabulate (message_from (i + 1) (store_each always (λ (k : ℕ). i * 9 + k) (λ (k : ℕ).
      get_or (words_of f) k 0) l 9) (set v i f.value)) 0 64 ≡ set (tabulate (message_from i l v) 0 64) i m
  items_set =
      tabulate_set (message_from i l v) _ m 64 i h (λ j p r. pick j r (true_or_false (ltb j i)))
      (at_in (i + 1) with_row (set v i f.value) i (omega arith) ∙ own)
    where
      pick : (j : ℕ) → (j ≡ i → ⊥) → (ltb j i ≡ true) ⊎ (ltb j i ≡ false) → message_from (i + 1) with_row (set v i f.value) j ≡ message_from i l v j
      pick j r (inl t) =
          let u = ltb-true j i t in
          at_in (i + 1) with_row (set v i f.value) j (omega arith) ∙ other j r ∙ sym (at_in i l v j u)
      pick j r (inr t) =
          let u = ltb-false j i t in
          at_past (i + 1) with_row (set v i f.value) j (omega arith) ∙ sym (at_past i l v j u)
