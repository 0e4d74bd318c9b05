-- Bytes that are not a setup are refused with 7, a setup out of range too, and bytes that are not records with 10; a file written from lent parts reads back the same.
use Rattle.std.specs.Prelude.{ℕ, ◌/◌, true, false, List, ◌≡◌, refl, length, Result, Ok, Err}
use Rattle.std.proofs.Common.{eq-eqb}
use Rattle.std.proofs.Math.Logic.{⊎_elim}
use Rattle.laws.specs.Choice.{not_both, true_or_false}
use Rattle.laws.specs.Lists.{All}
use Rattle.laws.specs.Tabulate.{tabulate, all_tabulate}
use Rattle.bytes_layout.specs.Number.{bytes_at, Bytes}
use Rattle.bytes_layout.proofs.Number.{number_below}
use Rattle.bytes_layout.proofs.Report.{number_some}
use Rattle.protocol.specs.declared.refusal.Refusal.{Refusal}
use Rattle.protocol.specs.declared.refusal.Refusal.TheVariants as no
use Rattle.protocol.specs.Refusals.{number_of}
use Rattle.protocol.specs.declared.setup.Setup.{Setup}
use Rattle.protocol.specs.declared.step.Step.{Step}
use Rattle.protocol.specs.Setup.{in_range}
use Rattle.file_records.specs.Records.{setup_in, step_in}
use Rattle.file_records.specs.Bytes.{file_bytes}
use Rattle.file_records.specs.Round.{Widths}
use Rattle.file_writer.specs.File.{write_refusal}
use Rattle.file_writer.specs.ReadBack.{ReadAs, not_refused}
use Rattle.export_parts.specs.Lent.{setup_whole, setup_lent, step_lent, records_whole, steps_lent, lent_refusal}

-- ---- refusals
module _ (l : List ℕ) where
  pub setup_out : setup_whole l ≡ false → setup_lent l ≡ Err no.Setup
  unfolding setup_lent
  setup_out e = rw e

  pub records_out : records_whole l ≡ false → steps_lent l ≡ Err no.Parts
  unfolding steps_lent
  records_out e = rw e

  module _ (n room : ℕ) where
    pub setup_refused : (x : Result (List Step) _) → setup_whole l ≡ false → lent_refusal n (setup_lent l) x room ≡ 7
    setup_refused x e = rw (setup_out e)

    pub records_refused : (s : Setup) → in_range s ≡ true → records_whole l ≡ false → lent_refusal n (Ok s) (steps_lent l) room ≡ 10
    records_refused s t e = rw (records_out e, t)

-- the setup's range is asked before the records, whatever these are
pub outside_refused : (n room : ℕ) (s : Setup) (x : Result (List Step) Refusal) → in_range s ≡ false → lent_refusal n (Ok s) x room ≡ 7
unfolding write_refusal
outside_refused n room s (Ok xs) t = rw t
outside_refused n room s (Err r) t = rw t

-- ---- the parts that are given; lent records are bytes, so the numbers of their steps fit their widths
pub setup_given : (l : List ℕ) (s : Setup) → setup_lent l ≡ Ok s → s ≡ setup_in l 0
unfolding setup_lent
setup_given l s e = ⊎_elim yes (λ t. absurd (never t)) (true_or_false (setup_whole l))
  where
    never : setup_whole l ≡ false → ⊥
    never t =
        let f = rw t at e in
        cc

    yes : setup_whole l ≡ true → s ≡ setup_in l 0
    yes t =
        let f = rw t at e in
        cc

pub volumes_lent : (l : List ℕ) (s : Setup) → setup_lent l ≡ Ok s → length s.volume ≡ 28
unfolding setup_in bytes_at
volumes_lent l s e = rw (setup_given l s e)

pub steps_given : (l : List ℕ) (xs : List Step) → steps_lent l ≡ Ok xs → (records_whole l ≡ true) × (xs ≡ tabulate (step_lent l) 0 (length l / 16))
unfolding steps_lent
steps_given l xs e = ⊎_elim yes (λ t. absurd (never t)) (true_or_false (records_whole l))
  where
    never : records_whole l ≡ false → ⊥
    never t =
        let f = rw t at e in
        cc

    yes : records_whole l ≡ true → (records_whole l ≡ true) × (xs ≡ tabulate (step_lent l) 0 (length l / 16))
    yes t =
        let f = rw t at e in
        (t, cc)

widths : (l : List ℕ) (xs : List Step) → Bytes l → steps_lent l ≡ Ok xs → All Widths xs
unfolding step_in
widths l xs b e =
    rw (steps_given l xs e).1
    (all_tabulate Widths (step_lent l) 0 (length l / 16) (λ k _ _. record { clock = number_below l b _ 4; value = number_below l b _ 8 }))

-- ---- a call that is not refused has both parts, and the file of them reads back the same
abbrev pub ReadFrom : List ℕ → Result Setup Refusal → Result (List Step) Refusal → Type 0
ReadFrom note (Ok s) (Ok xs) = ReadAs (file_bytes note s xs) note s xs
ReadFrom note (Ok s) (Err r) = ⊥
ReadFrom note (Err r) x = ⊥

pub lent_read : (note setup records : List ℕ) (room : ℕ) → lent_refusal (length note) (setup_lent setup) (steps_lent records) room ≡ 0 → Bytes records
    → ReadFrom note (setup_lent setup) (steps_lent records)
lent_read note setup records room g b = by_parts (setup_lent setup) (steps_lent records) refl refl g
  where
    number : (r : Refusal) → number_of r ≡ 0 → ⊥
    number r h = not_both (eq-eqb (number_of r) 0 h) (number_some r)

    by_parts : (s : Result Setup Refusal) (x : Result (List Step) Refusal) → setup_lent setup ≡ s → steps_lent records ≡ x → lent_refusal (length note) s x room ≡ 0
        → ReadFrom note s x
    by_parts (Err r) x e f h = number r h
    by_parts (Ok s) (Err r) e f h = ⊎_elim (λ t. number r (rw t at h)) (λ t. number no.Setup (rw t at h)) (true_or_false (in_range s))
    by_parts (Ok s) (Ok xs) e f h = not_refused note s xs room (volumes_lent setup s e) (widths records xs b f) h
