-- Lemmas cited by the function proofs: each derives a postcondition or a loop invariant from the facts of one path or iteration.
use Rattle.std.proofs.Common.{◌≡◌, ℕ, ◌+◌, ◌<◌, ◌≤◌, Bool, true, false, List, [], ◌∷◌, ◌++◌, length, sym, refl, ap, ◌∙◌, add-one, arith, le-leb}
use Rattle.std.specs.Prelude.{Result, Ok, Err, nat_le}
use Rattle.std.proofs.Common.{⊎_elim}
use Rattle.laws.specs.Choice.{true_or_false}
use Rattle.protocol.specs.Refusals.{number_of, refused_by}
use Rattle.laws.specs.Tabulate.{tabulate, tabulate_more, length_tabulate}
use borrow.Author.Tests.{lt-leb}
use Rattle.protocol.specs.declared.setup.Setup.{Setup}
use Rattle.protocol.specs.Setup.{in_range}
use Rattle.protocol.specs.declared.refusal.Refusal.{Refusal}
use Rattle.protocol.specs.declared.refusal.Refusal.TheVariants as no
use Rattle.protocol.specs.declared.step.Step.{Step}
use Rattle.bytes_layout.specs.Report.{Reports}
use Rattle.bytes_layout.proofs.Report.{number_some, none_written}
use Rattle.file_records.specs.Bytes.{file_bytes}
use Rattle.file_writer.specs.File.{write_refusal}
use Rattle.workload.specs.declared.draws.Drawn.{Drawn}
use Rattle.workload.specs.Draws.{drawn_after}
use Rattle.workload.specs.Workload.{seed_of, total_of, step_of, workload, steps_refusal, unless_steps_refused, workload_of, file_refusal}
use Rattle.workload.specs.Laws.{total_small, same_refusal, refused_number, unrefused, refused_alike}

-- ---- the loop that draws the steps: k are drawn, and seed and total are those of step k
pub record Drawing (q : Setup) (s : ℕ) (xs : List Step) (last total k : ℕ) : Type 0 where
  pub drawn : xs ≡ workload q s k
  pub seed_is : last ≡ seed_of s k
  pub total_is : total ≡ total_of q s k

pub drawing_none : (q : Setup) (s : ℕ) (xs : List Step) → xs ≡ [] → Drawing q s xs s 0 0
unfolding seed_of total_of tabulate
drawing_none q s xs e = record { drawn = e; seed_is = refl; total_is = refl }

module _ (q : Setup) (s : ℕ) (xs : List Step) (last total k : ℕ) (d : Drawing q s xs last total k) where
  module _ (n : ℕ) (g : k < n) (h : n ≤ 4000) where
    pub total_fits : total ≤ 16000
    total_fits = omega (arith, d.total_is, total_small q s k)

    pub room_there : length xs < 4000
    room_there =
        let e : length (workload q s k) < 4000 = omega (arith, length_tabulate (step_of q s) 0 k) in
        rw (← d.drawn) at e

  one_more : workload q s (k + 1) ≡ workload q s k ++ (step_of q s k ∷ [])
  one_more =
      let z : 0 + k ≡ k = omega arith in
      rw add-one (tabulate_more (step_of q s) 0 k ∙ rw z)

  pub drawing_again : (ys : List Step) (r : Drawn) → r ≡ drawn_after q last total → ys ≡ xs ++ (r.step ∷ []) → Drawing q s ys r.seed r.total (k + 1)
  unfolding seed_of total_of
  drawing_again ys r e f = record {
    drawn = f ∙ rw (d.drawn, e, d.seed_is, d.total_is) (sym one_more);
    seed_is = rw (e, d.seed_is, add-one);
    total_is = rw (e, d.seed_is, d.total_is, add-one);
  }

  pub drawing_end : (n : ℕ) → n ≤ k → k ≤ n → xs ≡ workload q s n
  drawing_end n g h =
      let e : k ≡ n = omega arith in
      rw e at d.drawn

-- ---- the refusal
module _ {A : Type 0} (q : Setup) (n : ℕ) (x : A) (b : Bool) (e : b ≡ in_range q) where
  pub accepted : b ≡ true → n ≤ 4000 → Ok x ≡ unless_steps_refused q n x
  unfolding unless_steps_refused
  accepted h g = rw (← e, h, le-leb _ _ g)

  pub too_many : b ≡ true → 4000 < n → Err no.Parts ≡ unless_steps_refused q n x
  unfolding unless_steps_refused
  too_many h g = rw (← e, h, lt-leb _ _ g)

  pub out_of_range : b ≡ false → Err no.Setup ≡ unless_steps_refused q n x
  unfolding unless_steps_refused
  out_of_range h = rw (← e, h)

-- ---- what a refusal or a list of steps tells
same_refused : {A B : Type 0} (r k : Refusal) → ◌≡◌ {A = Result A Refusal} (Err r) (Err k) → ◌≡◌ {A = Result B Refusal} (Err r) (Err k)
same_refused r k e =
    let i : r ≡ k = cc in
    rw i

module _ {A : Type 0} (q : Setup) (n : ℕ) (x : A) where
  pub refused_alike_err : {B : Type 0} (y : B) (r : Refusal) → Err r ≡ unless_steps_refused q n x → Err r ≡ unless_steps_refused q n y
  unfolding unless_steps_refused
  refused_alike_err y r e = ⊎_elim few (λ t. rw t (same_refused r no.Setup (rw t at e))) (true_or_false (in_range q))
    where
      few : in_range q ≡ true → Err r ≡ unless_steps_refused q n y
      few t = ⊎_elim (λ u. absurd (never u)) (λ u. rw t (rw u (same_refused r no.Parts (rw u at (rw t at e))))) (true_or_false (nat_le n 4000))
        where
          never : nat_le n 4000 ≡ true → ⊥
          never u =
              let f = rw (t, u) at e in
              cc

  pub refused_is : (r : Refusal) → Err r ≡ unless_steps_refused q n x → steps_refusal q n ≡ number_of r
  refused_is r e = sym (refused_number q n x) ∙ ap refused_by (sym e)

  module _ (y : A) (e : Ok y ≡ unless_steps_refused q n x) where
    pub both_answered : (in_range q ≡ true) × (n ≤ 4000)
    both_answered = unrefused q n (sym (refused_number q n x) ∙ ap refused_by (sym e))

    pub given_is : y ≡ x
    unfolding unless_steps_refused
    given_is =
        let f = rw (both_answered.0, le-leb n 4000 both_answered.1) at e in
        cc

pub steps_given : {A : Type 0} (q : Setup) (s n : ℕ) (x y : A) (xs : List Step) → Ok y ≡ unless_steps_refused q n x → xs ≡ workload q s n → Ok xs ≡ workload_of q s n
unfolding unless_steps_refused
steps_given q s n x y xs e f =
    let all = both_answered q n x y e in
    rw (all.0, le-leb n 4000 all.1) (ap (λ (l : List Step). Ok l) f)

module _ (q : Setup) (s n : ℕ) (note before : List ℕ) where
  pub file_written : (xs ys : List Step) (after : List ℕ) (a : Result ℕ Refusal) → Ok xs ≡ workload_of q s n → ys ≡ xs
      → Reports (write_refusal (length note) q ys (length before)) (file_bytes note q ys) before after a
      → Reports (file_refusal (length note) q n (length before)) (file_bytes note q (workload q s n)) before after a
  file_written xs ys after a e f d =
      let i : ys ≡ workload q s n = f ∙ given_is q n (workload q s n) xs e in
      rw (i, same_refusal q s n (length note) (length before)) at d

  pub file_refused : (r : Refusal) → Err r ≡ workload_of q s n
      → Reports (file_refusal (length note) q n (length before)) (file_bytes note q (workload q s n)) before before (Err r)
  file_refused r e =
      let i = refused_is q n (workload q s n) r e in
      none_written _ _ before r (refused_alike q n (length note) (length before) (rw i (number_some r)) ∙ i)
