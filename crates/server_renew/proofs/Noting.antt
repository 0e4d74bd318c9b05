-- The test "number not above the highest seen", and storing the new number.
use Prim.Native.Nat.{ℕ, ◌+◌, ◌<◌, ◌≤◌}
use mathlib.Core.List.{List}
use mathlib.Core.Path.{◌≡◌, refl, ap, ◌∙◌}
use lib.ListN.{get_or, set}
use borrow.Author.Tests.{le-leb, lt-leb}
use Rattle.laws.specs.Parts.{parts, part_at, stored}
use Rattle.protocol.specs.declared.setup.Setup.{Setup}
use Rattle.protocol.specs.declared.tables.Tables.{Tables}
use Rattle.protocol.specs.SoundLaws.{Growing}
use Rattle.protocol.specs.Server.{noted, renewed_by, renewed}
use Rattle.state_words.specs.Fields.{word_lengths, at, SEEN}
use Rattle.state_words.specs.View.{tables_of, records_of}

module _ (s : Setup) (w x : List ℕ) (d n : ℕ) (i : d < 16) where
  notes : tables_of (set w (at SEEN + d) n) x ≡ noted (tables_of w x) d n
  unfolding noted tables_of
  notes = rw (stored word_lengths w SEEN d n i)

  records_noted : records_of (set w (at SEEN + d) n) x ≡ records_of w x
  unfolding records_of
  records_noted = rw (stored word_lengths w SEEN d n i)

  pub noted_clock : (tables_of (set w (at SEEN + d) n) x).clock ≡ (tables_of w x).clock
  unfolding noted
  noted_clock = ap (λ (t : Tables). t.clock) notes

  pub noted_grows : Growing s (tables_of w x).objects → Growing s (tables_of (set w (at SEEN + d) n) x).objects
  unfolding noted
  noted_grows g = rw notes g

  module _ (o e held : ℕ) where
    pub renew_old : n ≤ get_or w (at SEEN + d) 0 → (tables_of w x ≡ renewed s (tables_of w x) d o n e held) × (records_of w x ≡ records_of w x)
    unfolding renewed tables_of
    renew_old h = (rw (le-leb n (get_or (parts word_lengths w SEEN) d 0) (rw (part_at word_lengths w SEEN d i) at h)), refl)

    tables_renewed : (t : Tables) → get_or w (at SEEN + d) 0 < n → t ≡ renewed_by s (tables_of (set w (at SEEN + d) n) x) d o n e held → t ≡ renewed s (tables_of w x) d o n e held
    unfolding renewed tables_of
    tables_renewed t h f = rw (lt-leb n (get_or (parts word_lengths w SEEN) d 0) (rw (part_at word_lengths w SEEN d i) at h), ← notes) f

    pub renew_new : (u y : List ℕ) → get_or w (at SEEN + d) 0 < n
        → (tables_of u y ≡ renewed_by s (tables_of (set w (at SEEN + d) n) x) d o n e held) × (records_of u y ≡ records_of (set w (at SEEN + d) n) x)
        → (tables_of u y ≡ renewed s (tables_of w x) d o n e held) × (records_of u y ≡ records_of w x)
    renew_new u y h f = (tables_renewed (tables_of u y) h f.0, f.1 ∙ records_noted)
