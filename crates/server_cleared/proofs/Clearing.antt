-- The result of receiving a CLEARED.
use Prim.Native.Nat.{ℕ, ◌+◌, ◌<◌, ◌≤◌}
use native.Mathlib.Omega.{arith}
use mathlib.Core.Bool.{Bool, true, false, not, ◌&&◌}
use mathlib.Core.List.{List}
use mathlib.Core.Path.{◌≡◌, refl, sym, ◌∙◌}
use lib.Dec.{eqb}
use lib.ListN.{get_or, set}
use Rattle.laws.specs.Parts.{part_at, stored, stored_each}
use Rattle.laws.specs.Sets.{bit_at, less}
use Rattle.laws.specs.Store.{store_each}
use Rattle.protocol.specs.declared.setup.Setup.{Setup}
use Rattle.protocol.specs.Tables.{by_volume, by_object}
use Rattle.protocol.specs.Server.{clear_taken, notes_dropped, notes_cleared}
use Rattle.state_words.specs.Fields.{word_lengths, at, VOLUME_EPOCH, LEASE, NOTES, BATCH}
use Rattle.state_words.specs.View.{tables_of, numbers_of, records_of}

pub clear_takes : (w : List ℕ) (d v n e : ℕ) → d < 16 → v < 8
    → (eqb e (get_or w (at VOLUME_EPOCH + v) 0) && (not (eqb n 0) && eqb n (get_or w (at BATCH + by_volume d v) 0))) ≡ clear_taken (numbers_of w) d v n e
unfolding clear_taken tables_of
clear_takes w d v n e h l = rw (part_at word_lengths w VOLUME_EPOCH v l, part_at word_lengths w BATCH (by_volume d v) (omega arith))

-- the test does not depend on the values
clear_same : (w x : List ℕ) (d v n e : ℕ) → clear_taken (numbers_of w) d v n e ≡ clear_taken (tables_of w x) d v n e
unfolding clear_taken tables_of
clear_same w x d v n e = refl

-- m is the set, k what is left of the notes; after the stores to w in `unnoted`, the loop gives a
module _ (s : Setup) (w a : List ℕ) (d v m k : ℕ) (i : d < 16) (l : v < 8) (few : s.objects ≤ 32) where
  abbrev unnoted : List ℕ
  unnoted = set (set w (at NOTES + by_volume d v) k) (at BATCH + by_volume d v) 0

  module _ (q : k ≡ less (get_or w (at NOTES + by_volume d v) 0) m)
      (e : a ≡ store_each (bit_at m) (λ (o : ℕ). at LEASE + by_object d o) (λ (o : ℕ). 0) unnoted s.objects) (x : List ℕ) where
    session_place : by_volume d v < 128
    session_place = omega arith

    lease_place : (o : ℕ) → o < s.objects → by_object d o < 512
    lease_place o h = omega arith

    tables_cleared : tables_of a x ≡ notes_dropped s (tables_of w x) d v m
    unfolding notes_dropped tables_of
    tables_cleared =
        rw (
          e,
          stored_each word_lengths LEASE (bit_at m) (by_object d) (λ (o : ℕ). 0) s.objects lease_place unnoted,
          stored word_lengths _ BATCH (by_volume d v) 0 session_place,
          stored word_lengths w NOTES (by_volume d v) k session_place,
          q,
          part_at word_lengths w NOTES (by_volume d v) session_place,
        )

    pub records_cleared : records_of a x ≡ records_of w x
    unfolding records_of
    records_cleared =
        rw (
          e,
          stored_each word_lengths LEASE (bit_at m) (by_object d) (λ (o : ℕ). 0) s.objects lease_place unnoted,
          stored word_lengths _ BATCH (by_volume d v) 0 session_place,
          stored word_lengths w NOTES (by_volume d v) k session_place,
        )

    pub clear_yes : (n z : ℕ) (r : Bool) → r ≡ clear_taken (numbers_of w) d v n z → r ≡ true → tables_of a x ≡ notes_cleared s (tables_of w x) d v n z m
    unfolding notes_cleared
    clear_yes n z r g h = rw (sym (g ∙ clear_same w x d v n z) ∙ h) tables_cleared

pub clear_no : (s : Setup) (w x : List ℕ) (d v n e m : ℕ) (r : Bool) → r ≡ clear_taken (numbers_of w) d v n e → r ≡ false
    → tables_of w x ≡ notes_cleared s (tables_of w x) d v n e m
unfolding notes_cleared
clear_no s w x d v n e m r k h = rw (sym (k ∙ clear_same w x d v n e) ∙ h)
