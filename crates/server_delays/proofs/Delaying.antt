-- Storing a note, and for whom one is stored, as read from the words.
use Prim.Native.Nat.{ℕ, ◌+◌, ◌<◌}
use native.Mathlib.Omega.{arith}
use mathlib.Core.Bool.{Bool, cond}
use mathlib.Core.List.{List, []}
use mathlib.Core.Path.{◌≡◌, ap, ◌∙◌}
use lib.ListN.{get_or, set}
use Rattle.laws.specs.Flags.{flag, flag_at}
use Rattle.laws.specs.Parts.{part_at, stored}
use Rattle.laws.specs.Sets.{added}
use Rattle.protocol.specs.declared.setup.Setup.{Setup}
use Rattle.protocol.specs.declared.tables.Sessions.{Sessions}
use Rattle.protocol.specs.declared.tables.Tables.{Tables}
use Rattle.protocol.specs.Tables.{by_volume, by_object}
use Rattle.protocol.specs.Writes.{delays, put_off, delay_if}
use Rattle.lease_tests.specs.Parts.{Placed, delays_by}
use Rattle.state_words.specs.Fields.{word_lengths, at, CLOCK, SESSION_EXPIRY, UNREACHABLE, LEASE, NOTES, BATCH}
use Rattle.state_words.specs.View.{tables_of, numbers_of, records_of}
use Rattle.server_marks.specs.SessionWords.{sessions_of, OnlySessions}

module _ (w : List ℕ) (d v o m : ℕ) (g : d < 16) (l : v < 8) where
  abbrev words_noted : List ℕ
  words_noted = set (set w (at NOTES + by_volume d v) m) (at BATCH + by_volume d v) 0

  place : by_volume d v < 128
  place = omega arith

  pub only_noted : OnlySessions w words_noted
  unfolding tables_of records_of
  only_noted = record {
    tables = λ x. rw (stored word_lengths _ BATCH (by_volume d v) 0 place, stored word_lengths w NOTES (by_volume d v) m place);
    records = λ x. rw (stored word_lengths _ BATCH (by_volume d v) 0 place, stored word_lengths w NOTES (by_volume d v) m place);
  }

  pub puts_off : m ≡ added (get_or w (at NOTES + by_volume d v) 0) o → sessions_of words_noted ≡ put_off (sessions_of w) d v o
  unfolding tables_of
  puts_off e =
      rw (stored word_lengths _ BATCH (by_volume d v) 0 place, stored word_lengths w NOTES (by_volume d v) m place, e, part_at word_lengths w NOTES (by_volume d v) place)

pub delays_here : (s : Setup) (w : List ℕ) (o v d : ℕ) (r : Bool) (y : Sessions) → Placed s o v → d < 16
    → r ≡ delays_by (get_or w 0 0) (get_or w (at LEASE + by_object d o) 0) (flag (get_or w (at UNREACHABLE + by_volume d v) 0)) (get_or w (at SESSION_EXPIRY + by_volume d v) 0)
    → y ≡ cond r (put_off (sessions_of w) d v o) (sessions_of w) → y ≡ delay_if s (numbers_of w) o (sessions_of w) d
unfolding delays tables_of
delays_here s w o v d r y p g e f =
    let l = p.volume in
    let k = p.object in
    f ∙ rw (
      e,
      part_at word_lengths w CLOCK 0 (omega arith),
      part_at word_lengths w LEASE (by_object d o) (omega arith),
      flag_at word_lengths w UNREACHABLE (by_volume d v) (omega arith),
      part_at word_lengths w SESSION_EXPIRY (by_volume d v) (omega arith),
      p.is,
    )

-- the notes made so far change nothing that decides about the next
pub delays_still : (s : Setup) (w u : List ℕ) (o d : ℕ) (y : Sessions) → OnlySessions w u
    → y ≡ delay_if s (numbers_of u) o (sessions_of u) d → y ≡ delay_if s (numbers_of w) o (sessions_of u) d
delays_still s w u o d y e f = f ∙ ap (λ (t : Tables). delay_if s t o (sessions_of u) d) (e.tables [])
