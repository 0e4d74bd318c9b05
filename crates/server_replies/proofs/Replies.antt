-- The replies to a RENEW, and the test whether the write of an object waits for the client.
use Rattle.std.specs.Prelude.{Option, None, Some, MatchOption, unwrap_or}
use Rattle.std.proofs.Common.{zero-add}
use Prim.Native.Nat.{ℕ, ◌+◌, ◌<◌, ◌≤◌}
use native.Mathlib.Omega.{arith}
use mathlib.Core.Bool.{Bool, true, false, ◌&&◌}
use mathlib.Core.List.{List}
use mathlib.Core.Path.{◌≡◌, sym, ◌∙◌}
use lib.Dec.{eqb}
use lib.ListN.{get_or}
use borrow.Author.Tests.{eq-eqb, ne_eqb}
use Rattle.laws.specs.First.{first_known, first_nothing}
use Rattle.laws.specs.Flags.{flag, flag_at}
use Rattle.laws.specs.Loop.{first_from}
use Rattle.laws.specs.Parts.{part_at}
use Rattle.laws.specs.Sets.{bit_at}
use Rattle.protocol.specs.declared.message.Kind.TheVariants.{Grant, Offer, Batch}
use Rattle.protocol.specs.declared.setup.Setup.{Setup}
use Rattle.protocol.specs.Messages.{message}
use Rattle.protocol.specs.Tables.{by_volume, version_at}
use Rattle.protocol.specs.Server.{offering, batching, waited_in, payload_for, granting}
use Rattle.lease_tests.specs.Parts.{Placed}
use Rattle.state_words.specs.Fields.{word_lengths, value_lengths, at, at_value, CLOCK, VOLUME_EPOCH, VERSION, STANDING, WAITING, NOTES, VALUE}
use Rattle.state_words.specs.View.{tables_of, numbers_of}

module _ (w : List ℕ) where
  pub waits_in_law : (s : Setup) (d v o u : ℕ) (r : Bool) → Placed s o u → r ≡ bit_at (get_or w (at WAITING + o) 0) d
      → (eqb u v && (flag (get_or w (at STANDING + o) 0) && r)) ≡ waited_in s (numbers_of w) d v o
  unfolding tables_of
  waits_in_law s d v o u r p h = rw (flag_at word_lengths w STANDING o p.object, h, part_at word_lengths w WAITING o p.object, p.is)

module _ (w x : List ℕ) where
  pub pays_same : (o held : ℕ) → o < 32 → get_or w (at VERSION + o) 0 ≡ held → None ≡ payload_for (tables_of w x) o held
  unfolding tables_of
  pays_same o held l e = rw (eq-eqb (version_at (tables_of w x) o) held (sym (part_at word_lengths w VERSION o l) ∙ e))

  pub pays_value : (o held : ℕ) → o < 32 → (get_or w (at VERSION + o) 0 ≡ held → ⊥) → Some (get_or x (at_value VALUE + o) 0) ≡ payload_for (tables_of w x) o held
  unfolding tables_of
  pays_value o held l n = rw (ne_eqb (version_at (tables_of w x) o) held (λ e. n (part_at word_lengths w VERSION o l ∙ e)), part_at value_lengths x VALUE o l)

  pub sends_grant : (s : Setup) (d o n held v : ℕ) (y : Option ℕ) → Placed s o v → y ≡ payload_for (tables_of w x) o held
      → message d (Grant o n (get_or w 0 0 + s.tv) (get_or w (at VOLUME_EPOCH + v) 0) (get_or w (at VERSION + o) 0) (get_or w 0 0 + s.t) y) ≡ granting s (tables_of w x) d o n held
  unfolding tables_of
  sends_grant s d o n held v y p e =
      rw (part_at word_lengths w CLOCK 0 (omega arith), part_at word_lengths w VOLUME_EPOCH v p.volume, part_at word_lengths w VERSION o p.object, e, p.is)

pub sends_offer : (w : List ℕ) (d v n : ℕ) → v < 8 → message d (Offer v n (get_or w (at VOLUME_EPOCH + v) 0)) ≡ offering (numbers_of w) d v n
unfolding tables_of
sends_offer w d v n h = rw (part_at word_lengths w VOLUME_EPOCH v h)

pub sends_batch : (w : List ℕ) (d v n : ℕ) → d < 16 → v < 8
    → message d (Batch v n (get_or w (at VOLUME_EPOCH + v) 0) (get_or w (at NOTES + by_volume d v) 0)) ≡ batching (numbers_of w) d v n
unfolding tables_of
sends_batch w d v n g h = rw (part_at word_lengths w VOLUME_EPOCH v h, part_at word_lengths w NOTES (by_volume d v) (omega arith))
