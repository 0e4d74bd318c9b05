-- Facts about every workload: its clocks are at most 4 times the number of steps, every step fits into a run file, and the file reads back the same.
use Rattle.std.specs.Prelude.{◌≡◌, ℕ, zero, suc, ◌*◌, ◌<◌, ◌≤◌, Bool, true, false, cond, not, ◌||◌, List, length, ◌==◌, nat_eq, nat_le}
use native.Mathlib.Omega.{arith}
use Rattle.std.proofs.Math.Path.{refl, ap}
use Rattle.std.proofs.Common.{sym, ◌∙◌}
use Rattle.std.proofs.Math.Logic.{⊎_elim}
use borrow.Author.Tests.{leb-true}
use Rattle.laws.specs.Choice.{and-true, and_yes, or_yes, true_or_false, not_both}
use Rattle.laws.specs.Lists.{All}
use Rattle.laws.specs.Loop.{all_of}
use Rattle.laws.specs.Tabulate.{tabulate_at, length_tabulate, all_tabulate}
use Rattle.protocol.specs.declared.setup.Setup.{Setup}
use Rattle.protocol.specs.declared.step.Step.{Step}
use Rattle.protocol.specs.Refusals.{refused_by}
use Rattle.protocol.specs.Setup.{in_range}
use Rattle.protocol.specs.Gate.{is_clock, is_write, uses_client, uses_object, uses_place}
use Rattle.protocol.proofs.Gate.{asked}
use Rattle.protocol.specs.Saved.{uses_name, known_kind}
use Rattle.file_records.specs.Records.{no_step}
use Rattle.file_shape.specs.Shape.{step_fits}
use Rattle.bytes_layout.specs.Number.{limit}
use Rattle.file_records.specs.Bytes.{file_bytes}
use Rattle.file_records.specs.Round.{Widths}
use Rattle.file_writer.specs.File.{sizes_fit, fits_at, all_fit, file_fits, write_refusal}
use Rattle.file_writer.specs.ReadBack.{ReadAs, not_refused}
use Rattle.workload.specs.Draws.{only_used}
use Rattle.workload.specs.DrawsLaws.{clock_near, value_small, total_near}
use Rattle.workload.specs.Workload.{seed_of, total_of, step_of, workload, steps_refusal, unless_steps_refused, file_refusal}

module _ (q : Setup) (s : ℕ) where
  -- ---- the clock cannot overflow: the sum of 4,000 amounts of at most 4 is far below 2,147,483,647
  pub total_small : (k : ℕ) → total_of q s k ≤ 4 * k
  unfolding total_of
  total_small zero = omega arith
  total_small (suc k) = omega (arith, total_near q (seed_of s k) (total_of q s k), total_small k)

  pub clock_small : (k : ℕ) → k < 4000 → (step_of q s k).clock ≤ 16000
  clock_small k h = omega (arith, clock_near q (seed_of s k) (total_of q s k), total_small k)

-- ---- a step with its unused fields set to 0 fits
kept : (used : Bool) (n : ℕ) → (used || cond used n 0 == 0) ≡ true
kept true n = refl
kept false n = refl

kept_place : (used name : Bool) (n : ℕ) → (used || name || cond used n 0 == 0) ≡ true
kept_place true name n = refl
kept_place false name n = sym (or_yes name)

used_fits : (x : Step) → step_fits (only_used x) ≡ true
unfolding step_fits only_used
used_fits x =
    rw (
      kept (uses_client x) x.client,
      kept (uses_object x) x.object,
      kept_place (uses_place x) (uses_name x) x.place,
      kept (is_clock x) x.clock,
      kept (is_write x) x.value,
    ) (sym (or_yes (not (known_kind (only_used x)))))

module _ (q : Setup) (s n : ℕ) where
  pub workload_fits : all_fit (workload q s n) ≡ true
  unfolding all_fit
  workload_fits =
      rw (length_tabulate (step_of q s) 0 n) (all_of (fits_at (workload q s n)) n (λ k h. ap step_fits (tabulate_at (step_of q s) n k no_step h) ∙ used_fits _))

  -- All steps fit, so the writer refuses a workload only for its sizes or its setup.
  pub same_refusal : (noteLength room : ℕ) → write_refusal noteLength q (workload q s n) room ≡ file_refusal noteLength q n room
  unfolding write_refusal file_fits file_refusal
  same_refusal noteLength room = rw (workload_fits, length_tabulate (step_of q s) 0 n, and_yes (sizes_fit noteLength n room))

-- ---- which workloads are refused
module _ (q : Setup) (n : ℕ) where
  pub refused_number : {A : Type 0} (x : A) → refused_by (unless_steps_refused q n x) ≡ steps_refusal q n
  unfolding steps_refusal unless_steps_refused
  refused_number x = ⊎_elim (λ t. rw t (⊎_elim (λ u. rw u) (λ u. rw u) (true_or_false (nat_le n 4000)))) (λ t. rw t) (true_or_false (in_range q))

  pub unrefused : steps_refusal q n ≡ 0 → (in_range q ≡ true) × (n ≤ 4000)
  unfolding steps_refusal
  unrefused e =
      let range = asked (in_range q) 6 _ e in
      (range.0, leb-true _ _ (asked (nat_le n 4000) 9 0 range.1).0)

  module _ (noteLength room : ℕ) where
    pub refused_alike : nat_eq (steps_refusal q n) 0 ≡ false → file_refusal noteLength q n room ≡ steps_refusal q n
    unfolding steps_refusal file_refusal sizes_fit
    refused_alike e = ⊎_elim yes (λ t. rw t) (true_or_false (in_range q))
      where
        few : in_range q ≡ true → nat_le n 4000 ≡ true → file_refusal noteLength q n room ≡ steps_refusal q n
        few t u = not_both refl (rw u at (rw t at e))

        yes : in_range q ≡ true → file_refusal noteLength q n room ≡ steps_refusal q n
        yes t = ⊎_elim (few t) (λ u. rw t (rw u)) (true_or_false (nat_le n 4000))

    few_written : file_refusal noteLength q n room ≡ 0 → n ≤ 4000
    unfolding file_refusal sizes_fit
    few_written e =
        let sizes = (asked (sizes_fit noteLength n room) 9 0 (asked (in_range q) 6 _ e).1).0 in
        leb-true _ _ (and-true _ _ (and-true _ _ sizes).0).0

-- ---- the reader accepts a workload's file and returns its parts
module _ (note : List ℕ) (q : Setup) (s n room : ℕ) (v : length q.volume ≡ 28) (e : file_refusal (length note) q n room ≡ 0) where
  few : n ≤ 4000
  few = few_written q n (length note) room e

  widths : All Widths (workload q s n)
  unfolding limit
  widths =
      all_tabulate Widths (step_of q s) 0 n (λ k _ h. record { clock = omega (arith, clock_small q s k (omega (arith, h, few))); value = omega (arith, value_small q (seed_of s k) (total_of q s k)) })

  pub workload_read : ReadAs (file_bytes note q (workload q s n)) note q (workload q s n)
  workload_read = not_refused note q (workload q s n) room v widths (same_refusal q s n (length note) room ∙ e)
