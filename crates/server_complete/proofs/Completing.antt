-- Completing a write: the object's own fields, and the loops over the clients.
use Prim.Native.Nat.{ℕ, ◌+◌, ◌<◌}
use native.Mathlib.Omega.{arith}
use mathlib.Core.Bool.{Bool, true, false}
use mathlib.Core.List.{List}
use mathlib.Core.Path.{◌≡◌, refl, sym, ap, ◌∙◌}
use lib.ListN.{get_or, set}
use Rattle.laws.specs.Flags.{flags_set}
use Rattle.laws.specs.Loop.{fold_from}
use Rattle.laws.specs.Parts.{parts, with_part, part_at, stored, stored_each}
use Rattle.laws.specs.Store.{store_each, always}
use Rattle.protocol.specs.declared.setup.Setup.{Setup}
use Rattle.protocol.specs.declared.tables.Tables.{Tables}
use Rattle.protocol.specs.Tables.{by_object, version_at, with_sessions, with_objects, with_holders}
use Rattle.protocol.specs.Writes.{waited, ready, posted, released, deserted, completed, settled}
use Rattle.protocol.specs.Leases.{guard_passed}
use Rattle.lease_tests.specs.Parts.{Placed}
use Rattle.state_words.specs.Fields.{word_lengths, value_lengths, at, at_value, VERSION, STANDING, END, LEASE, WAITING, VALUE, PENDING}
use Rattle.state_words.specs.View.{tables_of, numbers_of, records_of}
use Rattle.server_marks.specs.SessionWords.{sessions_of, OnlySessions, sessions_become}
use Rattle.server_waiting.specs.Waiting.{mark_if_in}
use Rattle.server_due.specs.Triggers.{one_staged}

-- the test does not depend on the values
ready_same : (s : Setup) (w : List ℕ) (o : ℕ) (x : List ℕ) → ready s (numbers_of w) o ≡ ready s (tables_of w x) o
unfolding ready waited guard_passed tables_of
ready_same s w o x = refl

module _ (w x : List ℕ) (o : ℕ) (h : o < 32) where
  abbrev words_posted : List ℕ
  words_posted = set (set (set w (at VERSION + o) (get_or w (at VERSION + o) 0 + 1)) (at STANDING + o) 0) (at END + o) 0

  abbrev values_posted : List ℕ
  values_posted = set (set x (at_value VALUE + o) (get_or x (at_value PENDING + o) 0)) (at_value PENDING + o) 0

  tables_posted : tables_of words_posted values_posted ≡ with_objects (tables_of w x) (posted (tables_of w x) o)
  unfolding posted tables_of
  tables_posted =
      rw (
        part_at word_lengths w VERSION o h,
        part_at value_lengths x PENDING o h,
        stored word_lengths _ END o 0 h,
        stored word_lengths _ STANDING o 0 h,
        stored word_lengths _ VERSION o _ h,
        stored value_lengths _ PENDING o 0 h,
        stored value_lengths _ VALUE o _ h,
        flags_set (parts word_lengths w STANDING) o 0,
      )

  records_posted : records_of words_posted values_posted ≡ records_of w x
  unfolding records_of
  records_posted =
      rw (stored word_lengths _ END o 0 h, stored word_lengths _ STANDING o 0 h, stored word_lengths _ VERSION o _ h, stored value_lengths _ PENDING o 0 h, stored value_lengths _ VALUE o _ h)

  pub posts : (tables_of words_posted values_posted ≡ with_objects (tables_of w x) (posted (tables_of w x) o)) × (records_of words_posted values_posted ≡ records_of w x)
  posts = (tables_posted, records_posted)

-- m is the set of the clients that are waited for; the marks turn the words w into a, the next loop that into b, and c has nobody waited for
module _ (s : Setup) (w a b x : List ℕ) (o v n m : ℕ) (p : Placed s o v) (i : n ≡ s.clients) (q : m ≡ get_or w (at WAITING + o) 0)
    (e : (sessions_of a ≡ fold_from (mark_if_in m v) (sessions_of w) 0 n) × OnlySessions w a)
    (f : b ≡ store_each always (λ (d : ℕ). at LEASE + by_object d o) (λ (d : ℕ). 0) a n) where
  abbrev c : List ℕ
  c = set b (at WAITING + o) 0

  abbrev leases : List ℕ
  leases = store_each always (λ (d : ℕ). by_object d o) (λ (d : ℕ). 0) (parts word_lengths a LEASE) n

  fields_released : parts word_lengths c ≡ with_part (with_part (parts word_lengths a) LEASE leases) WAITING (set (parts word_lengths a WAITING) o 0)
  fields_released =
      let h = p.clients in
      let os = p.object in
      let k : (d : ℕ) → d < n → by_object d o < 512 = (λ d k. omega arith) in
      rw (stored word_lengths b WAITING o 0 os, f, stored_each word_lengths LEASE always (λ (d : ℕ). by_object d o) (λ (d : ℕ). 0) n k a)

  awaited : m ≡ get_or (parts word_lengths w WAITING) o 0
  awaited = q ∙ part_at word_lengths w WAITING o p.object

  marks_stored : tables_of a x ≡ with_sessions (tables_of w x) (deserted s (tables_of w x) o)
  unfolding deserted tables_of
  marks_stored = sessions_become w a x (deserted s (tables_of w x) o) e.1 (e.0 ∙ rw (awaited, i, p.is))

  tables_released : tables_of c x ≡ with_holders (tables_of a x) (released s (tables_of a x) o)
  unfolding released tables_of
  tables_released = rw (fields_released, i)

  tables_left : tables_of c x ≡ with_holders (with_sessions (tables_of w x) (deserted s (tables_of w x) o)) (released s (tables_of w x) o)
  unfolding released
  tables_left = tables_released ∙ rw marks_stored

  -- neither loop changes the version
  pub released_version : version_at (tables_of c x) o ≡ version_at (tables_of w x) o
  released_version = ap (λ (t : Tables). version_at t o) tables_left

  records_released : records_of c x ≡ records_of a x
  unfolding records_of
  records_released = rw fields_released

  module _ (w' x' : List ℕ) where
    tables_completed : tables_of w' x' ≡ with_objects (tables_of c x) (posted (tables_of c x) o) → tables_of w' x' ≡ completed s (tables_of w x) o
    unfolding completed posted
    tables_completed h = h ∙ rw tables_left

    pub completes : (tables_of w' x' ≡ with_objects (tables_of c x) (posted (tables_of c x) o)) × (records_of w' x' ≡ records_of c x)
        → (tables_of w' x' ≡ completed s (tables_of w x) o) × (records_of w' x' ≡ records_of w x)
    completes h = (tables_completed h.0, h.1 ∙ records_released ∙ e.1.records x)

-- ---- one object, if its write is ready

module _ (s : Setup) (w x : List ℕ) (o : ℕ) (r : Bool) (e : r ≡ ready s (numbers_of w) o) where
  pub one_yes : (u v : List ℕ) → r ≡ true → (tables_of u v ≡ completed s (tables_of w x) o) × (records_of u v ≡ records_of w x)
      → (record { count = 1; tables = tables_of u v } ≡ settled s (one_staged s (tables_of w x) o)) × (records_of u v ≡ records_of w x)
  unfolding settled fold_from
  one_yes u v h q = (rw (sym (ready_same s w o x) ∙ sym e ∙ h, q.0), q.1)

  pub one_no : r ≡ false → (record { count = 0; tables = tables_of w x } ≡ settled s (one_staged s (tables_of w x) o)) × (records_of w x ≡ records_of w x)
  unfolding settled fold_from
  one_no h = (rw (sym (ready_same s w o x) ∙ sym e ∙ h), refl)
