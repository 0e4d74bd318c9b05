-- Question 1 of one saved state.
-- Letters: s setup, w words, x values, a, b and c what the tests of copies, requests and tables returned.
use Rattle.std.specs.List.{list_all, range_with_len}
use Prim.Native.Nat.{ℕ, zero, suc, ◌+◌, ◌*◌, ◌≤◌}
use native.Mathlib.Omega.{arith}
use mathlib.Core.Bool.{Bool, true, false, ◌&&◌}
use mathlib.Core.List.{List}
use mathlib.Core.Path.{◌≡◌, refl, sym, ap, ◌∙◌}
use lib.Dec.{eqb}
use lib.ListN.{length, get_or, take, length-take}
use lib.Seq.{get_or-take}
use borrow.Author.Tests.{eq-eqb, ne_eqb}
use Rattle.laws.specs.Loop.{all_from, all_same}
use Rattle.laws.specs.Tabulate.{length_tabulate}
use Rattle.protocol.specs.declared.records.Copy.{Copy}
use Rattle.protocol.specs.declared.setup.Setup.{Setup}
use Rattle.protocol.proofs.Ranges.{ranges}
use Rattle.protocol.specs.Setup.{in_range}
use Rattle.protocol.specs.Sound.{time_fits, request_sound, copies_sound, requests_sound, tables_sound, sound}
use Rattle.protocol.specs.Saved.{world_sound, sound_under}
use Rattle.protocol.specs.Tables.{no_copy, no_request}
use Rattle.state_words.specs.Fields.{at, SAVED}
use Rattle.state_words.specs.View.{tables_of, records_of, requests_of, world_of}
use Rattle.state_words.specs.Saved.{saved_in}
use Rattle.state_words.proofs.SavedLaws.{mark_read}
use Rattle.state_words.proofs.Worlds.{few_copies}

and_assoc : (a b c : Bool) → (a && b && c) ≡ ((a && b) && c)
and_assoc true b c = refl
and_assoc false b c = refl

-- a test of all numbers of a range
pub all_listed : (p : ℕ → Bool) (j n : ℕ) → list_all p (range_with_len j n) ≡ all_from p j n
unfolding all_from
all_listed p j zero = refl
all_listed p j (suc n) = ap (λ (b : Bool). p j && b) (all_listed p (j + 1) n)

-- a test of the first n of a list is the test of them in the whole list
first_ones : {A : Type 0} (p : A → Bool) (d : A) (l : List A) (n : ℕ) → n ≤ length l
    → (eqb (length (take n l)) n && all_from (λ (k : ℕ). p (get_or (take n l) k d)) 0 (length (take n l))) ≡ all_from (λ (k : ℕ). p (get_or l k d)) 0 n
first_ones p d l n h = rw (count, eq-eqb n n refl) (all_same _ _ 0 n (λ k a b. ap p (get_or-take n l k d (omega arith))))
  where
    count : length (take n l) ≡ n
    count = length-take n l ∙ omega arith

module _ (s : Setup) (w x : List ℕ) (i : in_range s ≡ true) where
  copies_first : copies_sound s (take (s.clients * s.objects) (records_of w x).copies)
      ≡ all_from (λ (k : ℕ). time_fits (get_or (records_of w x).copies k no_copy).expiry) 0 (s.clients * s.objects)
  unfolding copies_sound records_of
  copies_first = first_ones (λ (c : Copy). time_fits c.expiry) no_copy _ (s.clients * s.objects) (rw (length_tabulate _ 0 512) (few_copies s i))

  requests_first : requests_sound s (take s.clients (records_of w x).requests)
      ≡ all_from (λ (d : ℕ). request_sound s (get_or (requests_of w) d no_request)) 0 s.clients
  unfolding requests_sound records_of
  requests_first = first_ones (request_sound s) no_request _ s.clients (rw (length_tabulate _ 0 16) (ranges s i).clients.1)

-- ---- the ways through the test of one state; r says whether the setup is in range
module _ (s : Setup) (r : Bool) (e : r ≡ in_range s) where
  pub fits_copies : r ≡ true → (n : ℕ) → n ≡ s.clients * s.objects → n ≤ 512
  fits_copies t n f = rw f (few_copies s (sym e ∙ t))

  pub fits_requests : r ≡ true → s.clients ≤ 16
  fits_requests t = (ranges s (sym e ∙ t)).clients.1

  pub ranged : r ≡ true → in_range s ≡ true
  ranged t = sym e ∙ t

  module _ (w x : List ℕ) where
    pub state_sound : r ≡ true → (n : ℕ) (a b c : Bool) → n ≡ s.clients * s.objects
        → a ≡ all_from (λ (k : ℕ). time_fits (get_or (records_of w x).copies k no_copy).expiry) 0 n
        → b ≡ all_from (λ (d : ℕ). request_sound s (get_or (requests_of w) d no_request)) 0 s.clients → c ≡ tables_sound s (tables_of w x)
        → (a && b && c) ≡ world_sound s (world_of s w x)
    unfolding sound
    state_sound t n a b c f g h k = rw (sym e ∙ t, copies_first s w x (sym e ∙ t), requests_first s w x (sym e ∙ t), ← f, ← g, ← h, ← k) (and_assoc a b c)

    pub state_unsound : r ≡ false → false ≡ world_sound s (world_of s w x)
    unfolding sound
    state_unsound t = rw (sym e ∙ t) refl

module _ (s : Setup) (w x : List ℕ) where
  pub there_sound : (b : Bool) → (get_or w (at SAVED) 0 ≡ 0 → ⊥) → b ≡ world_sound s (world_of s w x) → b ≡ sound_under s (saved_in s w x)
  there_sound b h e = rw (← mark_read w, ne_eqb (get_or w (at SAVED) 0) 0 h) e

  pub never_sound : get_or w (at SAVED) 0 ≡ 0 → true ≡ sound_under s (saved_in s w x)
  never_sound h = rw (← mark_read w, h) refl
