-- Sending the INVALIDATEs: which clients get one, and what else stays unchanged.
use Prim.Native.Nat.{ℕ, ◌+◌, ◌-◌, ◌<◌, ◌≤◌}
use mathlib.Core.Bool.{false}
use mathlib.Core.List.{List}
use mathlib.Core.Path.{◌≡◌, refl, sym, ap, ◌∙◌}
use lib.ListN.{get_or}
use Rattle.laws.specs.Loop.{fold_from, first_from, fold_again, fold_end}
use Rattle.laws.specs.Parts.{part_at}
use Rattle.laws.specs.Sets.{bit_at}
use Rattle.laws.specs.Skip.{Found, fold_skip, first_is}
use Rattle.protocol.specs.declared.message.Queue.{Queue}
use Rattle.protocol.specs.declared.message.Kind.{Kind}
use Rattle.protocol.specs.declared.message.Kind.TheVariants.{Invalidate}
use Rattle.protocol.specs.declared.setup.Setup.{Setup}
use Rattle.protocol.specs.declared.tables.Tables.{Tables}
use Rattle.protocol.specs.Messages.{message}
use Rattle.protocol.specs.Tables.{awaited_at, waiting_at, with_queue}
use Rattle.protocol.specs.Writes.{notify, notified}
use Rattle.protocol.specs.Server.{sent}
use Rattle.lease_tests.specs.Parts.{Placed}
use Rattle.state_words.specs.Fields.{word_lengths, at, VOLUME_EPOCH, VERSION, WAITING}
use Rattle.state_words.specs.View.{tables_of, numbers_of, records_of}
use Rattle.server_write.specs.Invalidates.{invalidate_kind}

-- the loop's invariant: nothing has changed except the message list
pub record Sending (w₀ x₀ w x : List ℕ) : Type 0 where
  pub tables : tables_of w x ≡ with_queue (tables_of w₀ x₀) (tables_of w x).queue
  pub records : records_of w x ≡ records_of w₀ x₀

pub sending_start : (w x : List ℕ) → Sending w x w x
unfolding tables_of
sending_start w x = record { tables = refl; records = refl }

pub sending_again : (w₀ x₀ w x u v : List ℕ) (q : Queue)
    → Sending w₀ x₀ w x → (tables_of u v ≡ with_queue (tables_of w x) q) × (records_of u v ≡ records_of w x) → Sending w₀ x₀ u v
sending_again w₀ x₀ w x u v q s e = record {
  tables =
      e.0 ∙ ap (λ (t : Tables). with_queue t q) s.tables
      ∙ ap (with_queue (tables_of w₀ x₀)) (sym (ap (λ (t : Tables). t.queue) e.0));
  records = e.1 ∙ s.records;
}

-- the INVALIDATE does not depend on the values
kind_same : (s : Setup) (w x : List ℕ) (o : ℕ) → invalidate_kind s (numbers_of w) o ≡ invalidate_kind s (tables_of w x) o
unfolding tables_of
kind_same s w x o = refl

module _ (s : Setup) (w₀ x₀ w x : List ℕ) (o m from d N : ℕ) (n : N ≡ s.clients) (e : m ≡ awaited_at (tables_of w₀ x₀) o) (t : Sending w₀ x₀ w x)
    (l : from ≤ N) (f : Found (bit_at m) from N d)
    (i : fold_from (notify s (tables_of w₀ x₀) o) (tables_of w x).queue from (N - from) ≡ notified s (tables_of w₀ x₀) o) where
  nobody : (q : Queue) (d : ℕ) → waiting_at (tables_of w₀ x₀) d o ≡ false → notify s (tables_of w₀ x₀) o q d ≡ q
  nobody q d h = rw h

  found : d ≡ first_from (λ d. waiting_at (tables_of w₀ x₀) d o) from (N - from)
  found = rw e at f.is

  passed : fold_from (notify s (tables_of w₀ x₀) o) (tables_of w x).queue d (N - d) ≡ notified s (tables_of w₀ x₀) o
  passed =
      fold_skip (notify s (tables_of w₀ x₀) o) (λ q d. waiting_at (tables_of w₀ x₀) d o) nobody N from d (tables_of w x).queue
      (notified s (tables_of w₀ x₀) o) l found i

  pub notify_again : (u v : List ℕ) (k : Kind) → d < N → k ≡ invalidate_kind s (numbers_of w₀) o → tables_of u v ≡ sent (tables_of w x) (message d k)
      → fold_from (notify s (tables_of w₀ x₀) o) (tables_of u v).queue (d + 1) (N - (d + 1)) ≡ notified s (tables_of w₀ x₀) o
  notify_again u v k h r g =
      fold_again (notify s (tables_of w₀ x₀) o) N d (tables_of w x).queue (tables_of u v).queue (notified s (tables_of w₀ x₀) o) h
      (ap (λ (t : Tables). t.queue) g ∙ rw (r ∙ kind_same s w₀ x₀ o, first_is (λ d. waiting_at (tables_of w₀ x₀) d o) N from d l found h)) passed

  pub notify_end : N ≤ d → (tables_of w x ≡ with_queue (tables_of w₀ x₀) (notified s (tables_of w₀ x₀) o)) × (records_of w x ≡ records_of w₀ x₀)
  notify_end h = (
    t.tables
        ∙ ap (with_queue (tables_of w₀ x₀)) (fold_end (notify s (tables_of w₀ x₀) o) N d (tables_of w x).queue (notified s (tables_of w₀ x₀) o) h passed),
    t.records,
  )

-- the clients that the words name are those that the write waits for
pub awaited_word : (w x : List ℕ) (o : ℕ) → o < 32 → get_or w (at WAITING + o) 0 ≡ awaited_at (tables_of w x) o
unfolding tables_of
awaited_word w x o h = part_at word_lengths w WAITING o h

-- an INVALIDATE with the epoch and the version that the words have
pub invalidates : (s : Setup) (w : List ℕ) (o v : ℕ) → Placed s o v
    → Invalidate o (get_or w (at VOLUME_EPOCH + v) 0) (get_or w (at VERSION + o) 0 + 1) ≡ invalidate_kind s (numbers_of w) o
unfolding tables_of
invalidates s w o v p = rw (part_at word_lengths w VOLUME_EPOCH v p.volume, part_at word_lengths w VERSION o p.object, p.is)
