-- Lemmas cited by the function proofs: each derives a postcondition or a loop invariant from the facts of one path or iteration.
use Rattle.std.specs.Prelude.{ℕ, ◌+◌, ◌*◌, ◌/◌, ◌%◌, ◌<◌, ◌≤◌, List, [], ◌∷◌, ◌++◌, ◌≡◌, length, get_or, Ok, Err}
use Rattle.std.proofs.Common.{arith, add-one, sym, ◌∙◌}
use borrow.Author.Tests.{le-leb, lt-leb, eq-eqb, ne_eqb}
use Rattle.laws.specs.Tabulate.{tabulate, tabulate_more, length_tabulate}
use Rattle.protocol.specs.declared.refusal.Refusal.TheVariants as no
use Rattle.protocol.specs.declared.setup.Setup.{Setup}
use Rattle.protocol.specs.declared.step.Step.{Step}
use Rattle.file_records.specs.Records.{setup_in, step_in}
use Rattle.export_parts.specs.Lent.{setup_lent, step_lent, steps_lent}

-- ---- a setup
module _ (l : List ℕ) where
  pub other_length : (length l ≡ 48 → ⊥) → Err no.Setup ≡ setup_lent l
  unfolding setup_lent
  other_length h = rw (ne_eqb _ _ h)

  pub not_spare : length l ≡ 48 → (get_or l 3 0 ≡ 0 → ⊥) → Err no.Setup ≡ setup_lent l
  unfolding setup_lent
  not_spare g h = rw (eq-eqb _ _ g, ne_eqb (get_or l 3 0) 0 h)

  pub setup_right : (s : Setup) → length l ≡ 48 → get_or l 3 0 ≡ 0 → s ≡ setup_in l 0 → Ok s ≡ setup_lent l
  unfolding setup_lent
  setup_right s g h e = rw (eq-eqb _ _ g, eq-eqb (get_or l 3 0) 0 h, ← e)

-- ---- the loop that reads the records: k are read
module _ (l : List ℕ) (xs : List Step) (k : ℕ) (r : xs ≡ tabulate (step_lent l) 0 k) where
  pub room_there : (n : ℕ) → k < n → n ≤ 4000 → length xs < 4000
  room_there n g h =
      let e : length (tabulate (step_lent l) 0 k) < 4000 = omega (arith, length_tabulate (step_lent l) 0 k) in
      rw (← r) at e

  pub reading_again : (ys : List Step) (y : Step) → y ≡ step_in l (16 * k) → ys ≡ xs ++ (y ∷ []) → ys ≡ tabulate (step_lent l) 0 (k + 1)
  reading_again ys y e f =
      let z : 0 + k ≡ k = omega arith in
      f ∙ rw (r, e) (sym (rw add-one (tabulate_more (step_lent l) 0 k ∙ rw z)))

  pub reading_end : (n : ℕ) → n ≤ k → k ≤ n → xs ≡ tabulate (step_lent l) 0 n
  reading_end n g h =
      let e : k ≡ n = omega arith in
      rw e at r

-- ---- all records
module _ (l : List ℕ) where
  pub not_whole : (length l % 16 ≡ 0 → ⊥) → Err no.Parts ≡ steps_lent l
  unfolding steps_lent
  not_whole h = rw (ne_eqb (length l % 16) 0 h)

  pub too_many : length l % 16 ≡ 0 → 64000 < length l → Err no.Parts ≡ steps_lent l
  unfolding steps_lent
  too_many g h = rw (eq-eqb _ _ g, lt-leb _ _ h)

  pub whole : (xs : List Step) → length l % 16 ≡ 0 → length l ≤ 64000 → xs ≡ tabulate (step_lent l) 0 (length l / 16) → Ok xs ≡ steps_lent l
  unfolding steps_lent
  whole xs g h e = rw (eq-eqb _ _ g, le-leb _ _ h, e)
