-- The rows below the list's length. In sound tables each of them is a message. If one is not, the tables are unsound, and every step is refused with 1.
-- Letters: s setup, w words, x values, i a place, b whether the records are sound, r a request, y a step; the others are proofs.
use Rattle.std.specs.Prelude.{ℕ, ◌<◌, Bool, true, false, ◌&&◌, List, ◌≡◌}
use Rattle.std.proofs.Common.{arith}
use Rattle.std.proofs.Math.Logic.{⊎_elim}
use borrow.Author.Tests.{lt-ltb}
use Rattle.laws.specs.Choice.{and-true, true_or_false}
use Rattle.laws.specs.Tabulate.{tabulate_at}
use Rattle.protocol.specs.declared.records.Request.{Request}
use Rattle.protocol.specs.declared.setup.Setup.{Setup}
use Rattle.protocol.specs.declared.step.Step.{Step}
use Rattle.protocol.specs.Setup.{in_range}
use Rattle.protocol.proofs.Ranges.{ranges}
use Rattle.protocol.specs.Messages.{blank, message_at}
use Rattle.protocol.specs.Sound.{tables_sound, sound}
use Rattle.protocol.proofs.SoundLaws.{sound_length, sound_message}
use Rattle.protocol.specs.Gate.{refusal}
use Rattle.state_words.specs.Rows.{stray, message_of, message_from}
use Rattle.state_words.specs.View.{tables_of}
use Rattle.state_words.specs.LiveRows.{message_there, Live}

module _ (s : Setup) (w x : List ℕ) (i : ℕ) (h : i < (tables_of w x).queue.len) where
  reads_stray : i < 64 → message_there w x i ≡ false → message_at (tables_of w x).queue i ≡ stray
  unfolding tables_of message_from message_of
  reads_stray f n = rw (tabulate_at _ 64 i blank f, lt-ltb i _ h, n)

  module _ (range : in_range s ≡ true) (e : tables_sound s (tables_of w x) ≡ true) where
    inside : i < 64
    inside = omega (arith, sound_length s (tables_of w x) e)

    -- a stray row reads as a client that no setup has
    never_stray : message_there w x i ≡ false → ⊥
    never_stray n =
        let m = rw (reads_stray inside n) at (sound_message s (tables_of w x) e i h) in
        omega (arith, (ranges s range).clients.1, m.0)

    pub live : Live w x i
    live = record { inside = inside; below = h; message = ⊎_elim (λ m. m) (λ n. absurd (never_stray n)) (true_or_false (message_there w x i)) }

  unsound : message_there w x i ≡ false → (b : Bool) → sound s (tables_of w x) b ≡ true → ⊥
  unfolding sound
  unsound n b e =
      let q = and-true (in_range s && b) (tables_sound s (tables_of w x)) e in
      never_stray (and-true (in_range s) b q.0).0 q.1 n

  pub no_message_refused : message_there w x i ≡ false → (b : Bool) (r : Request) (y : Step) → refusal s (tables_of w x) b r y ≡ 1
  unfolding refusal
  no_message_refused n b r y = ⊎_elim (λ e. absurd (unsound n b e)) (λ e. rw e) (true_or_false (sound s (tables_of w x) b))
