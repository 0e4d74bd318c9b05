-- The result of receiving a DROPPED.
use Prim.Native.Nat.{ℕ, ◌+◌, ◌-◌, ◌<◌, ◌≤◌}
use native.Mathlib.Omega.{arith}
use mathlib.Core.Bool.{Bool, true, false, cond, not, ◌&&◌}
use mathlib.Core.List.{List}
use mathlib.Core.Path.{◌≡◌, refl, sym, ap, ◌∙◌}
use lib.Dec.{eqb}
use lib.ListN.{get_or, set}
use lib.Seq.{get_or-set_other}
use Rattle.laws.specs.Choice.{cond_keeps}
use Rattle.laws.specs.Flags.{flags_set}
use Rattle.laws.specs.Loop.{fold_from, fold_again}
use Rattle.laws.specs.Parts.{parts, part_at, stored, stored_each}
use Rattle.laws.specs.Sets.{removed}
use Rattle.laws.specs.Shift.{Above}
use Rattle.laws.specs.Store.{store_at, store_each}
use Rattle.protocol.specs.declared.setup.Setup.{Setup}
use Rattle.protocol.specs.SoundLaws.{Growing}
use Rattle.protocol.specs.Tables.{by_volume, by_object}
use Rattle.protocol.specs.Writes.{Counted, settled}
use Rattle.protocol.specs.Server.{of_volume, disowned, dropped, drop_taken, drop_staged}
use Rattle.lease_tests.specs.Parts.{Placed}
use Rattle.state_words.specs.Fields.{word_lengths, at, VOLUME_EPOCH, SESSION_EXPIRY, UNREACHABLE, OFFER, LEASE, WAITING}
use Rattle.state_words.specs.View.{tables_of, numbers_of, records_of}
use Rattle.server_due.specs.declared.Trigger.TheVariants.{Volume}
use Rattle.server_due.specs.Triggers.{triggered, trigger_staged}
use Rattle.server_waiting.specs.Waiting.{awaited_in}

pub drop_takes : (w : List ℕ) (d v n e : ℕ) → d < 16 → v < 8
    → (eqb e (get_or w (at VOLUME_EPOCH + v) 0) && (not (eqb n 0) && eqb n (get_or w (at OFFER + by_volume d v) 0))) ≡ drop_taken (numbers_of w) d v n e
unfolding drop_taken tables_of
drop_takes w d v n e h l = rw (part_at word_lengths w VOLUME_EPOCH v l, part_at word_lengths w OFFER (by_volume d v) (omega arith))

-- the test does not depend on the values
drop_same : (w x : List ℕ) (d v n e : ℕ) → drop_taken (numbers_of w) d v n e ≡ drop_taken (tables_of w x) d v n e
unfolding drop_taken tables_of
drop_same w x d v n e = refl

-- the test of the volume that the code makes
pub in_volume : (s : Setup) (o v u : ℕ) (r : Bool) → Placed s o u → r ≡ eqb u v → r ≡ of_volume s v o
in_volume s o v u r p e = e ∙ ap (λ (x : ℕ). eqb x v) p.is

-- one iteration of the loop over the objects' sets: those from o on are as they were
module _ (w₀ w u : List ℕ) (b : Bool) (o m : ℕ) (a : Above w₀ w (at WAITING + o)) (e : u ≡ cond b (set w (at WAITING + o) m) w) where
  pub stop_keeps : Above w₀ u (at WAITING + (o + 1))
  stop_keeps =
      rw e
      (cond_keeps (λ (x : List ℕ). Above w₀ x (at WAITING + (o + 1))) b
      (λ _. record { same = λ q k. get_or-set_other w (at WAITING + o) q m 0 (λ z. omega arith) ∙ a.same q (omega arith) })
      (λ _. record { same = λ q k. a.same q (omega arith) }))

  pub stop_again : (s : Setup) (d v : ℕ) (A : List ℕ) → o < 32 → o < s.objects → b ≡ of_volume s v o → m ≡ removed (get_or w (at WAITING + o) 0) d
      → fold_from (store_at (of_volume s v) (λ (o : ℕ). at WAITING + o) (λ (o : ℕ). removed (awaited_in w₀ o) d)) w o (s.objects - o) ≡ A
      → fold_from (store_at (of_volume s v) (λ (o : ℕ). at WAITING + o) (λ (o : ℕ). removed (awaited_in w₀ o) d)) u (o + 1) (s.objects - (o + 1)) ≡ A
  stop_again s d v A l h g q i =
      let same = a.same (at WAITING + o) (omega arith) ∙ part_at word_lengths w₀ WAITING o l in
      fold_again (store_at (of_volume s v) (λ (o : ℕ). at WAITING + o) (λ (o : ℕ). removed (awaited_in w₀ o) d)) s.objects o w u A h (e ∙ rw (g, q, same)) i

-- after the stores to w in `unleased`, the two loops give a, then b
module _ (s : Setup) (w x a b : List ℕ) (d v : ℕ) (i : d < 16) (l : v < 8) (k : s.objects ≤ 32) where
  abbrev unleased : List ℕ
  unleased = set (set (set w (at SESSION_EXPIRY + by_volume d v) 0) (at UNREACHABLE + by_volume d v) 0) (at OFFER + by_volume d v) 0

  module _ (e : a ≡ store_each (of_volume s v) (λ (o : ℕ). at LEASE + by_object d o) (λ (o : ℕ). 0) unleased s.objects)
      (f : b ≡ store_each (of_volume s v) (λ (o : ℕ). at WAITING + o) (λ (o : ℕ). removed (awaited_in a o) d) a s.objects) where
    session_place : by_volume d v < 128
    session_place = omega arith

    lease_place : (o : ℕ) → o < s.objects → by_object d o < 512
    lease_place o h = omega arith

    waiting_place : (o : ℕ) → o < s.objects → o < 32
    waiting_place o h = omega arith

    tables_dropped : tables_of b x ≡ dropped s (tables_of w x) d v
    unfolding dropped disowned tables_of
    tables_dropped =
        rw (
          f,
          stored_each word_lengths
              WAITING (of_volume s v) (λ (o : ℕ). o) (λ (o : ℕ). removed (awaited_in a o) d) s.objects waiting_place a,
          e,
          stored_each word_lengths LEASE (of_volume s v) (by_object d) (λ (o : ℕ). 0) s.objects lease_place unleased,
          stored word_lengths _ OFFER (by_volume d v) 0 session_place,
          stored word_lengths _ UNREACHABLE (by_volume d v) 0 session_place,
          stored word_lengths _ SESSION_EXPIRY (by_volume d v) 0 session_place,
          flags_set (parts word_lengths w UNREACHABLE) (by_volume d v) 0,
        )

    records_dropped : records_of b x ≡ records_of w x
    unfolding records_of
    records_dropped =
        rw (
          f,
          stored_each word_lengths
              WAITING (of_volume s v) (λ (o : ℕ). o) (λ (o : ℕ). removed (awaited_in a o) d) s.objects waiting_place a,
          e,
          stored_each word_lengths LEASE (of_volume s v) (by_object d) (λ (o : ℕ). 0) s.objects lease_place unleased,
          stored word_lengths _ OFFER (by_volume d v) 0 session_place,
          stored word_lengths _ UNREACHABLE (by_volume d v) 0 session_place,
          stored word_lengths _ SESSION_EXPIRY (by_volume d v) 0 session_place,
        )

    pub drop_grows : Growing s (tables_of w x).objects → Growing s (tables_of b x).objects
    unfolding dropped
    drop_grows g = rw tables_dropped g

    pub drop_yes : (n e : ℕ) (m : Bool) (r : Counted) (u y : List ℕ) → m ≡ drop_taken (numbers_of w) d v n e → m ≡ true
        → (r ≡ settled s (trigger_staged s (Volume v) (tables_of b x))) × (records_of u y ≡ records_of b x)
        → (r ≡ settled s (drop_staged s (tables_of w x) d v n e)) × (records_of u y ≡ records_of w x)
    unfolding drop_staged triggered
    drop_yes n e m r u y k h g = (rw (sym (k ∙ drop_same w x d v n e) ∙ h) (rw tables_dropped at g.0), g.1 ∙ records_dropped)

pub drop_no : (s : Setup) (w x : List ℕ) (d v n e : ℕ) (m : Bool) → m ≡ drop_taken (numbers_of w) d v n e → m ≡ false
    → (record { count = 0; tables = tables_of w x } ≡ settled s (drop_staged s (tables_of w x) d v n e)) × (records_of w x ≡ records_of w x)
unfolding drop_staged settled fold_from
drop_no s w x d v n e m k h = (rw (sym (k ∙ drop_same w x d v n e) ∙ h), refl)
