-- Accepting a write: it is opened, the INVALIDATEs are sent, and it may complete.
use Prim.Native.Nat.{ℕ, ◌+◌, ◌<◌, max}
use native.Mathlib.Omega.{arith}
use mathlib.Core.Bool.{true}
use mathlib.Core.List.{List}
use mathlib.Core.Logic.{inl}
use mathlib.Core.Path.{◌≡◌, refl, ap, ◌∙◌}
use lib.ListN.{get_or, set}
use Rattle.laws.specs.Flags.{flags_set}
use Rattle.laws.specs.Greatest.{greatest, greatest_same}
use Rattle.laws.specs.Parts.{parts, part_at, stored}
use Rattle.laws.specs.Sets.{bit_at, set_of, set_in}
use Rattle.protocol.specs.declared.setup.Setup.{Setup}
use Rattle.protocol.specs.declared.tables.Tables.{Tables}
use Rattle.protocol.specs.Tables.{version_at, with_sessions, with_objects, with_holders, with_queue}
use Rattle.protocol.specs.Updates.{set_write, set_waiting}
use Rattle.protocol.specs.Writes.{Counted, waits, delays, delayed, latest_end, opened, awaited, begun, notified, written, write_staged, settled}
use Rattle.lease_tests.specs.Parts.{Placed}
use Rattle.state_words.specs.Fields.{word_lengths, value_lengths, at, at_value, CLOCK, GUARD, STANDING, END, WAITING, PENDING}
use Rattle.state_words.specs.View.{tables_of, numbers_of, records_of}
use Rattle.server_marks.specs.SessionWords.{sessions_of, OnlySessions, sessions_become}
use Rattle.server_due.specs.Triggers.{one_staged}
use Rattle.server_waiting.specs.Waiting.{waits_in, leased_in}

-- ---- opening the write

-- m is the set of the clients that the write waits for, `end` its latest end, and a are the words with its notes
module _ (s : Setup) (w x a : List ℕ) (o v n m least end : ℕ) (p : Placed s o v) (i : n ≡ s.clients) (f : m ≡ set_of (waits_in w v o) n)
    (least-is : least ≡ max (get_or w 0 0 + s.m) (get_or w (at GUARD + v) 0)) (end_is : end ≡ greatest (bit_at m) (leased_in w v o) least n)
    (notes : (sessions_of a ≡ delayed s (numbers_of w) o) × OnlySessions w a) where
  whom : (d : ℕ) → d < n → bit_at m d ≡ waits_in w v o d
  whom d h = rw f (set_in (waits_in w v o) n d h)

  end_awaited : end ≡ latest_end s (tables_of w x) o
  unfolding latest_end waits tables_of
  end_awaited =
      end_is ∙ greatest_same (leased_in w v o) least n (bit_at m) (waits_in w v o) (λ d h. inl (whom d h))
      ∙ rw (least-is, part_at word_lengths w CLOCK 0 (omega arith), part_at word_lengths w GUARD v p.volume, i, p.is)

  whom_awaited : m ≡ set_of (waits s (tables_of w x) o) s.clients
  unfolding waits tables_of
  whom_awaited = rw (f, i, p.is)

  -- whom a write is put off for does not depend on the values
  delayed_same : delayed s (numbers_of w) o ≡ delayed s (tables_of w x) o
  unfolding delayed delays tables_of
  delayed_same = refl

  tables_noted : tables_of a x ≡ with_sessions (tables_of w x) (delayed s (tables_of w x) o)
  tables_noted = sessions_become w a x (delayed s (tables_of w x) o) notes.1 (notes.0 ∙ delayed_same)

  module _ (y : ℕ) where
    abbrev words_begun : List ℕ
    words_begun = set (set (set a (at WAITING + o) m) (at STANDING + o) 1) (at END + o) end

    tables_stored : tables_of words_begun (set x (at_value PENDING + o) y)
        ≡ with_holders (with_objects (tables_of a x) (set_write (tables_of a x).objects o true y end)) (set_waiting (tables_of a x).holders o m)
    unfolding tables_of
    tables_stored =
        let g = p.object in
        rw (
          stored word_lengths _ END o end g,
          stored word_lengths _ STANDING o 1 g,
          stored word_lengths a WAITING o m g,
          stored value_lengths x PENDING o y g,
          flags_set (parts word_lengths a STANDING) o 1,
        )

    tables_begun : tables_of words_begun (set x (at_value PENDING + o) y) ≡ begun s (tables_of w x) o y
    unfolding opened awaited
    tables_begun = tables_stored ∙ rw (tables_noted, end_awaited, whom_awaited)

    records_begun : records_of words_begun (set x (at_value PENDING + o) y) ≡ records_of a x
    unfolding records_of
    records_begun =
        let g = p.object in
        rw (stored word_lengths _ END o end g, stored word_lengths _ STANDING o 1 g, stored word_lengths a WAITING o m g, stored value_lengths x PENDING o y g)

    pub begins : (tables_of words_begun (set x (at_value PENDING + o) y) ≡ begun s (tables_of w x) o y) × (records_of words_begun (set x (at_value PENDING + o) y) ≡ records_of w x)
    begins = (tables_begun, records_begun ∙ notes.1.records x)

-- ---- the whole step

module _ (s : Setup) (w x a b : List ℕ) (o y : ℕ) (e : (tables_of a b ≡ begun s (tables_of w x) o y) × (records_of a b ≡ records_of w x)) where
  pub begun_version : version_at (tables_of a b) o ≡ version_at (tables_of w x) o
  unfolding opened
  begun_version = ap (λ (t : Tables). version_at t o) e.0

  module _ (c d : List ℕ) (f : (tables_of c d ≡ with_queue (tables_of a b) (notified s (tables_of a b) o)) × (records_of c d ≡ records_of a b)) where
    pub sent_version : version_at (tables_of c d) o ≡ version_at (tables_of w x) o
    sent_version = ap (λ (t : Tables). version_at t o) f.0 ∙ begun_version

    pub accepts : (r : Counted) (u v : List ℕ) → (r ≡ settled s (one_staged s (tables_of c d) o)) × (records_of u v ≡ records_of c d)
        → (r ≡ settled s (write_staged s (tables_of w x) o y)) × (records_of u v ≡ records_of w x)
    unfolding written
    accepts r u v g =
        (g.0 ∙ ap (λ (t : Tables). settled s (one_staged s t o)) (f.0 ∙ ap (λ (t : Tables). with_queue t (notified s t o)) e.0), g.1 ∙ f.1 ∙ e.1)
