-- The result of receiving an ACK.
use Prim.Native.Nat.{ℕ, ◌+◌, ◌<◌}
use native.Mathlib.Omega.{arith}
use mathlib.Core.Bool.{Bool, true, false, ◌&&◌}
use mathlib.Core.List.{List}
use mathlib.Core.Path.{◌≡◌, refl, sym, ap, ◌∙◌}
use lib.Dec.{eqb}
use lib.ListN.{get_or, set}
use Rattle.laws.specs.Choice.{and-true}
use Rattle.laws.specs.Flags.{flag_yes, flag_no}
use Rattle.laws.specs.Loop.{fold_from}
use Rattle.laws.specs.Parts.{part_at, stored}
use Rattle.laws.specs.Sets.{removed}
use Rattle.protocol.specs.declared.setup.Setup.{Setup}
use Rattle.protocol.specs.declared.tables.Tables.{Tables}
use Rattle.protocol.specs.SoundLaws.{Growing}
use Rattle.protocol.specs.Tables.{by_object, version_at, standing_at}
use Rattle.protocol.specs.Writes.{Counted, settled}
use Rattle.protocol.specs.Server.{acked, ack_taken, ack_staged}
use Rattle.lease_tests.specs.Parts.{Placed}
use Rattle.state_words.specs.Fields.{word_lengths, at, VOLUME_EPOCH, VERSION, STANDING, LEASE, WAITING}
use Rattle.state_words.specs.View.{tables_of, numbers_of, records_of}
use Rattle.server_due.specs.Triggers.{one_staged}

pub grows_numbers : (s : Setup) (w x : List ℕ) → Growing s (tables_of w x).objects → Growing s (numbers_of w).objects
unfolding tables_of
grows_numbers s w x g = record { below = g.below }

module _ (s : Setup) (w : List ℕ) (o e z : ℕ) where
  pub ack_stands : (v : ℕ) → Placed s o v → (get_or w (at STANDING + o) 0 ≡ 0 → ⊥)
      → (eqb e (get_or w (at VOLUME_EPOCH + v) 0) && eqb z (get_or w (at VERSION + o) 0 + 1)) ≡ ack_taken s (numbers_of w) o e z
  unfolding ack_taken tables_of
  ack_stands v p h =
      rw (flag_yes word_lengths w STANDING o p.object h, part_at word_lengths w VOLUME_EPOCH v p.volume, part_at word_lengths w VERSION o p.object, p.is)

  pub ack_rests : o < 32 → get_or w (at STANDING + o) 0 ≡ 0 → false ≡ ack_taken s (numbers_of w) o e z
  unfolding ack_taken tables_of
  ack_rests l h = rw (flag_no word_lengths w STANDING o l h)

-- an object with a standing write has a version that can grow
pub standing_version : (s : Setup) (w : List ℕ) (o : ℕ) → Growing s (numbers_of w).objects
    → o < s.objects → o < 32 → (get_or w (at STANDING + o) 0 ≡ 0 → ⊥) → version_at (numbers_of w) o < 4294967295
unfolding tables_of
standing_version s w o g l k h = g.below o l (flag_yes word_lengths w STANDING o k h)

module _ (s : Setup) (w x : List ℕ) (d o e z : ℕ) (m : Bool) (k : m ≡ ack_taken s (numbers_of w) o e z) where
  taken : m ≡ ack_taken s (tables_of w x) o e z
  unfolding ack_taken tables_of
  taken = k

  pub ack_version : Growing s (tables_of w x).objects → o < s.objects → m ≡ true → version_at (tables_of w x) o < 4294967295
  unfolding ack_taken
  ack_version g l h = g.below o l (and-true (standing_at (tables_of w x) o) _ (sym taken ∙ h)).0

  pub ack_no : m ≡ false → (record { count = 0; tables = tables_of w x } ≡ settled s (ack_staged s (tables_of w x) d o e z)) × (records_of w x ≡ records_of w x)
  unfolding ack_staged settled fold_from
  ack_no h = (rw (sym taken ∙ h), refl)

  -- `rest` is left of the clients that the write waits for, and the lease goes
  module _ (rest : ℕ) (i : d < 16) (l : o < 32) (q : rest ≡ removed (get_or w (at WAITING + o) 0) d) where
    abbrev words_acked : List ℕ
    words_acked = set (set w (at WAITING + o) rest) (at LEASE + by_object d o) 0

    inside : by_object d o < 512
    inside = omega arith

    acks : tables_of words_acked x ≡ acked (tables_of w x) d o
    unfolding acked tables_of
    acks = rw (stored word_lengths _ LEASE (by_object d o) 0 inside, stored word_lengths w WAITING o rest l, q, part_at word_lengths w WAITING o l)

    records_acked : records_of words_acked x ≡ records_of w x
    unfolding records_of
    records_acked = rw (stored word_lengths _ LEASE (by_object d o) 0 inside, stored word_lengths w WAITING o rest l)

    pub ack_keeps : version_at (tables_of words_acked x) o ≡ version_at (tables_of w x) o
    unfolding acked
    ack_keeps = ap (λ (t : Tables). version_at t o) acks

    pub ack_yes : (r : Counted) (u y : List ℕ) → m ≡ true → (r ≡ settled s (one_staged s (tables_of words_acked x) o)) × (records_of u y ≡ records_of words_acked x)
        → (r ≡ settled s (ack_staged s (tables_of w x) d o e z)) × (records_of u y ≡ records_of w x)
    unfolding ack_staged
    ack_yes r u y h f = (rw (sym taken ∙ h) (rw acks at f.0), f.1 ∙ records_acked)
