-- Question 1 about the words w and values x: what each loop reads of an item is what the tables hold.
use Prim.Native.Nat.{ℕ, ◌+◌, ◌-◌, ◌<◌, ◌≤◌}
use native.Mathlib.Omega.{arith}
use mathlib.Core.Bool.{Bool, true, false, ◌&&◌, ◌||◌}
use mathlib.Core.List.{List}
use mathlib.Core.Path.{◌≡◌, ap, ◌∙◌}
use lib.Dec.{eqb, leb}
use lib.ListN.{get_or}
use borrow.Author.Tests.{le-leb, lt-leb}
use Rattle.laws.specs.Choice.{not_not}
use Rattle.laws.specs.Flags.{flag_at}
use Rattle.laws.specs.Loop.{all_from, all_by}
use Rattle.laws.specs.Parts.{part_at}
use Rattle.protocol.specs.declared.message.Message.{Message}
use Rattle.protocol.specs.declared.setup.Setup.{Setup}
use Rattle.protocol.specs.Setup.{in_range}
use Rattle.protocol.proofs.Ranges.{ranges}
use Rattle.protocol.specs.Messages.{message_at}
use Rattle.protocol.specs.Tables.{by_volume, by_object}
use Rattle.protocol.specs.Sound.{time_fits, can_grow, clock_limit, set_sound, volume_sound, object_sound}
use Rattle.protocol.specs.Sound.{session_sound, sessions_sound, holder_sound, holders_sound, message_sound, queue_sound, tables_sound}
use Rattle.state_words.specs.Fields.{word_lengths, at, CLOCK, VOLUME_EPOCH, VOLUME_EXPIRY, GUARD, SESSION_EXPIRY, VERSION, OBJECT_EXPIRY, STANDING, END, LEASE, NOTES, VIEW_EXPIRY}
use Rattle.state_words.proofs.ReadsLaws.{length_word}
use Rattle.state_words.specs.View.{tables_of, numbers_of}

module _ (w : List ℕ) where
  pub volume_fits_law : (v n : ℕ) → v < n → n ≤ 8
      → (leb 1 (get_or w (at VOLUME_EPOCH + v) 0) && time_fits (get_or w (at VOLUME_EXPIRY + v) 0) && time_fits (get_or w (at GUARD + v) 0)) ≡ volume_sound (numbers_of w) v
  unfolding tables_of
  volume_fits_law v n h k = rw (part_at word_lengths w VOLUME_EPOCH v (omega arith), part_at word_lengths w VOLUME_EXPIRY v (omega arith), part_at word_lengths w GUARD v (omega arith))

  pub object_fits : (o n : ℕ) → o < n → n ≤ 28
      → ((leb 1 (get_or w (at VERSION + o) 0) && time_fits (get_or w (at OBJECT_EXPIRY + o) 0))
      && (eqb (get_or w (at STANDING + o) 0) 0
      || (time_fits (get_or w (at END + o) 0) && can_grow (get_or w (at VERSION + o) 0)))) ≡ object_sound (numbers_of w) o
  unfolding tables_of
  object_fits o n h k =
      let l : o < 32 = omega arith in
      rw (
        ← not_not (eqb (get_or w (at STANDING + o) 0) 0),
        flag_at word_lengths w STANDING o l,
        part_at word_lengths w VERSION o l,
        part_at word_lengths w OBJECT_EXPIRY o l,
        part_at word_lengths w END o l,
      )

  pub session_fits : (s : Setup) (d v : ℕ) (r : Bool) → in_range s ≡ true → d < 16 → v < s.volumes → r ≡ set_sound s v (get_or w (at NOTES + by_volume d v) 0)
      → (time_fits (get_or w (at SESSION_EXPIRY + by_volume d v) 0) && time_fits (get_or w (at VIEW_EXPIRY + by_volume d v) 0) && r) ≡ session_sound s (numbers_of w) d v
  unfolding tables_of
  session_fits s d v r i g h e =
      let l : by_volume d v < 128 = omega (arith, (ranges s i).volumes.1) in
      rw (
        e,
        part_at word_lengths w SESSION_EXPIRY (by_volume d v) l,
        part_at word_lengths w VIEW_EXPIRY (by_volume d v) l,
        part_at word_lengths w NOTES (by_volume d v) l,
      )

  pub holder_fits : (d o n : ℕ) → d < 16 → o < n → n ≤ 28 → time_fits (get_or w (at LEASE + by_object d o) 0) ≡ holder_sound (numbers_of w) d o
  unfolding tables_of
  holder_fits d o n g h k = rw (part_at word_lengths w LEASE (by_object d o) (omega arith))

module _ (s : Setup) (w x : List ℕ) where
  abbrev fits : ℕ → Bool
  fits i = message_sound s (message_at (tables_of w x).queue i)

  pub queue_again : (N j : ℕ) (ok r A : Bool) (m : Message) → j < N → m ≡ message_at (tables_of w x).queue j → r ≡ message_sound s m
      → (ok && all_from fits j (N - j)) ≡ A → (ok && r && all_from fits (j + 1) (N - (j + 1))) ≡ A
  queue_again N j ok r A m h e f i = all_by fits N j ok r A h (f ∙ ap (message_sound s) e) i

  pub queue_long : 64 < get_or w 1 0 → false ≡ queue_sound s (tables_of w x).queue
  unfolding queue_sound
  queue_long h = rw (length_word w x, lt-leb _ _ h)

  pub queue_short : (r : Bool) → get_or w 1 0 ≤ 64 → r ≡ all_from fits 0 (get_or w 1 0) → r ≡ queue_sound s (tables_of w x).queue
  unfolding queue_sound
  queue_short r h e = rw (length_word w x, le-leb _ _ h) e

  -- the answers of all loops combined; only the one about the message list depends on the values
  pub scanned : (volumes objects sessions holders queue : Bool) → volumes ≡ all_from (volume_sound (numbers_of w)) 0 s.volumes
      → objects ≡ all_from (object_sound (numbers_of w)) 0 s.objects → sessions ≡ all_from (sessions_sound s (numbers_of w)) 0 s.clients
      → holders ≡ all_from (holders_sound s (numbers_of w)) 0 s.clients → queue ≡ queue_sound s (tables_of w x).queue
      → (leb (get_or w 0 0) clock_limit && volumes && objects && sessions && holders && queue) ≡ tables_sound s (tables_of w x)
  unfolding tables_sound tables_of
  scanned volumes objects sessions holders queue e₁ e₂ e₃ e₄ e₅ = rw (e₁, e₂, e₃, e₄, e₅, part_at word_lengths w CLOCK 0 (omega arith))
