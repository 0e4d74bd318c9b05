-- A run over the steps of a file, each on the machine that the last one left, and the lines of its answers.
use Rattle.std.specs.Prelude.{ℕ, ◌+◌, ◌*◌, ◌<◌, ◌≤◌, true, List, [], ◌++◌, ◌≡◌, refl}
use Rattle.std.proofs.Common.{arith, ◌∙◌, length-append}
use Rattle.std.proofs.Math.Path.{sym, ap}
use Rattle.std.proofs.Math.ListN.{length}
use Rattle.std.proofs.lemmas.List.Edits.{sets}
use Rattle.std.proofs.Math.Seq.{length-sets}
use Rattle.protocol.specs.declared.setup.Setup.{Setup}
use Rattle.protocol.specs.declared.step.Answer.{Answer}
use Rattle.protocol.specs.declared.step.Step.{Step}
use Rattle.protocol.specs.Setup.{in_range}
use Rattle.protocol.specs.Answers.{answer_value}
use Rattle.protocol.specs.Saved.{Machine, fresh_machine, answers_to, Called}
use Rattle.protocol.specs.SavedLaws.{SoundMachine}
use Rattle.protocol.proofs.SavedLaws.{fresh_machine_sound, moved_sound}
use Rattle.file_shape.specs.Shape.{count_of}
use Rattle.file_shape.specs.Parts.{Parts}
use Rattle.file_shape.specs.Places.{place_before}
use Rattle.file_reader.specs.File.{step_at}
use Rattle.file_reader.specs.Steps.{steps_of, steps_left, left_first, left_next, left_last}
use Rattle.listing.specs.Listing.{line_of, lines_from, line_short, answer_small}
use Rattle.bytes_layout.proofs.Number.{sets_then}
use Rattle.bytes_layout.specs.Written.{Written}

-- the state of a run of file l that has reached machine q after k steps: the lines of the remaining steps turn `out` into `whole`
pub record Going (s : Setup) (l : List ℕ) (start : ℕ) (whole : List ℕ) (end : ℕ) (q : Machine) (out : List ℕ) (at k : ℕ) : Type 0 where
  pub sound : SoundMachine s q
  pub room : at ≤ start + 28 * k
  pub lines : Written out whole at (lines_from (k + 1) (answers_to s q (steps_left l k))) end

-- the lines of a file's steps under a setup, which the loop has to write
abbrev pub lines_of : Setup → List ℕ → List ℕ
lines_of s l = lines_from 1 (answers_to s (fresh_machine s) (steps_of l))

-- ---- what remains to be written
written_rest : (l m whole : List ℕ) (p q end : ℕ) (a b : List ℕ) → Written l whole p (a ++ b) end → Written l m p a q → Written m whole q b end
written_rest l m whole p q end a b w v = record {
  next = omega (arith, w.next, v.next, length-append a b);
  bytes = record { stored = w.bytes.stored ∙ sym (sets_then l p a b) ∙ rw (v.bytes.stored, v.next); long = w.bytes.long ∙ sym v.bytes.long };
}

written_none : (l whole : List ℕ) (p end : ℕ) → Written l whole p [] end → (whole ≡ l) × (end ≡ p)
written_none l whole p end w = (w.bytes.stored, omega (arith, w.next))

module _ (s : Setup) (l out₀ : List ℕ) (start : ℕ) where
  abbrev pub Running : Machine → List ℕ → ℕ → ℕ → Type 0
  Running = Going s l start (sets out₀ start (lines_of s l)) (start + length (lines_of s l))

  pub run_starts : in_range s ≡ true → (q : Machine) → q ≡ fresh_machine s → Running q out₀ start 0
  run_starts i q e = record {
    sound = rw e (fresh_machine_sound s i);
    room = omega arith;
    lines = rw (e, left_first l) (record { next = refl; bytes = record { stored = refl; long = length-sets out₀ start (lines_of s l) } });
  }

  module _ (p : Parts l) (count : ℕ) (n : count ≡ count_of l) (q : Machine) (out : List ℕ) (at k : ℕ) (g : Running q out at k) where
    pub run_ends : count ≤ k → Written out₀ out start (lines_of s l) at
    unfolding lines_from answers_to
    run_ends h =
        let e = written_none out _ at _ (rw (left_last l k (rw n at h)) at g.lines) in
        record { next = sym e.1; bytes = record { stored = sym e.0; long = ap length (sym e.0) ∙ length-sets out₀ start (lines_of s l) } }

    module _ (h : k < count) where
      -- the line of the next step fits
      pub line_fits : start + 28 * count + 63 ≤ length out₀ → length out ≡ length out₀ → at + 63 ≤ length out
      line_fits room e = omega (arith, g.room)

      -- the next step, whose record is at the current offset
      pub run_again : in_range s ≡ true → (place : ℕ) → place ≡ place_before l k → (x : Step) → x ≡ step_at l place → (a : Answer) (r : Machine) → Called s q x a r
          → (out' : List ℕ) (at' : ℕ) → Written out out' at (line_of (k + 1) a) at' → Running r out' at' (k + 1)
      unfolding lines_from answers_to
      run_again i place b x e a r f out' at' v = record {
        sound = rw f.moves (moved_sound s i q x g.sound);
        room = omega (arith, g.room, v.next, line_short (k + 1) _ (answer_value a) (omega (arith, p.few)) (answer_small a));
        lines = written_rest out out' _ at at' _ (line_of (k + 1) a) _ (rw (f.answers, f.moves, e) (rw (left_next l place k b p (rw n at h)) at g.lines)) v;
      }
