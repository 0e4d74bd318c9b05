-- One iteration of the loops over the clients that read the words.
use Prim.Native.Nat.{ℕ, ◌+◌, ◌-◌, ◌<◌}
use native.Mathlib.Omega.{arith}
use mathlib.Core.Bool.{Bool, cond}
use mathlib.Core.List.{List}
use mathlib.Core.Path.{◌≡◌, refl, ◌∙◌}
use lib.ListN.{get_or}
use Rattle.laws.specs.Choice.{not_both}
use Rattle.laws.specs.Greatest.{raise_to, greatest, greatest_start, greatest_least}
use Rattle.laws.specs.Loop.{fold_from, fold_again, fold_keeps}
use Rattle.laws.specs.Parts.{part_at}
use Rattle.laws.specs.Sets.{bit_at, set_of, added, set_again, bit_none}
use Rattle.protocol.specs.declared.tables.Sessions.{Sessions}
use Rattle.protocol.specs.Tables.{by_volume, by_object}
use Rattle.lease_tests.specs.Parts.{waits_by, outlast_by}
use Rattle.state_words.specs.Fields.{word_lengths, at, CLOCK, SESSION_EXPIRY, LEASE}
use Rattle.server_waiting.specs.Waiting.{mark_if_in, waits_in, leased_in}

module _ (w : List ℕ) (v o d : ℕ) (i : v < 8) (j : o < 32) (k : d < 16) where
  waits : waits_by (get_or w 0 0) (get_or w (at LEASE + by_object d o) 0) (get_or w (at SESSION_EXPIRY + by_volume d v) 0) ≡ waits_in w v o d
  waits =
      rw (
        part_at word_lengths w CLOCK 0 (omega arith),
        part_at word_lengths w LEASE (by_object d o) (omega arith),
        part_at word_lengths w SESSION_EXPIRY (by_volume d v) (omega arith),
      )

  pub await_again : (m u : ℕ) (r : Bool) → m ≡ set_of (waits_in w v o) d
      → r ≡ waits_by (get_or w 0 0) (get_or w (at LEASE + by_object d o) 0) (get_or w (at SESSION_EXPIRY + by_volume d v) 0)
      → u ≡ cond r (added m d) m → u ≡ set_of (waits_in w v o) (d + 1)
  await_again m u r a b e = set_again (waits_in w v o) d (omega arith) m u r a (b ∙ waits) e

  pub end_again : (n m e u A : ℕ) (r : Bool) → d < n → r ≡ bit_at m d
      → u ≡ outlast_by e r (get_or w (at SESSION_EXPIRY + by_volume d v) 0) (get_or w (at LEASE + by_object d o) 0)
      → fold_from (raise_to (bit_at m) (leased_in w v o)) e d (n - d) ≡ A
      → fold_from (raise_to (bit_at m) (leased_in w v o)) u (d + 1) (n - (d + 1)) ≡ A
  end_again n m e u A r h b q f =
      fold_again (raise_to (bit_at m) (leased_in w v o)) n d e u A h
      (rw (b, part_at word_lengths w SESSION_EXPIRY (by_volume d v) (omega arith), part_at word_lengths w LEASE (by_object d o) (omega arith)) at q) f

-- where a write waits for nobody, the loops change nothing
pub end_none : (f : ℕ → ℕ) (m a n : ℕ) → m ≡ 0 → a ≡ greatest (bit_at m) f a n
end_none f m a n e =
    omega (arith, greatest_start (bit_at m) f a a n (omega arith), greatest_least (bit_at m) f a a n (omega arith) (λ k _ t. not_both t (rw e (bit_none k))))

pub marks_none : (m v n : ℕ) (x : Sessions) → m ≡ 0 → x ≡ fold_from (mark_if_in m v) x 0 n
marks_none m v n x e =
    fold_keeps (λ (y : Sessions). x ≡ y) (mark_if_in m v) (λ y d f. rw (e, bit_none d) f) x 0 n refl
