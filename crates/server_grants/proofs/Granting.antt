-- What an OFFER, a BATCH and a GRANT store in the words w; the values are x. Sending the message m then gives u and y.
use Prim.Native.Nat.{ℕ, ◌+◌, ◌<◌}
use native.Mathlib.Omega.{arith}
use mathlib.Core.List.{List}
use mathlib.Core.Path.{◌≡◌, refl, ap, ◌∙◌}
use lib.ListN.{get_or, set}
use Rattle.laws.specs.Parts.{part_at, stored}
use Rattle.protocol.specs.declared.message.Message.{Message}
use Rattle.protocol.specs.declared.setup.Setup.{Setup}
use Rattle.protocol.specs.declared.tables.Tables.{Tables}
use Rattle.protocol.specs.Tables.{by_volume, by_object, with_sessions}
use Rattle.protocol.specs.Updates.{set_offer}
use Rattle.protocol.specs.Writes.{marked}
use Rattle.protocol.specs.Server.{sent, offered, offering, batched, batching, granting, granted, volume_renewed, object_renewed}
use Rattle.lease_tests.specs.Parts.{Placed}
use Rattle.state_words.specs.Fields.{word_lengths, at, CLOCK, VOLUME_EXPIRY, SESSION_EXPIRY, OFFER, OBJECT_EXPIRY, LEASE, BATCH}
use Rattle.state_words.specs.View.{tables_of, numbers_of, records_of}
use Rattle.server_marks.specs.SessionWords.{sessions_of, OnlySessions, sessions_become}

-- the OFFER does not depend on the values
offering_same : (w x : List ℕ) (d v n : ℕ) → offering (numbers_of w) d v n ≡ offering (tables_of w x) d v n
unfolding tables_of
offering_same w x d v n = refl

-- nor does the BATCH
batching_same : (w x : List ℕ) (d v n : ℕ) → batching (numbers_of w) d v n ≡ batching (tables_of w x) d v n
unfolding tables_of
batching_same w x d v n = refl

module _ (w x u y : List ℕ) (m : Message) where
  module _ (d v n : ℕ) (h : d < 16) (l : v < 8) where
    place : by_volume d v < 128
    place = omega arith

    -- a are the words with the mark
    module _ (a : List ℕ) (marks : (sessions_of a ≡ marked (sessions_of w) d v) × OnlySessions w a) where
      abbrev words_offered : List ℕ
      words_offered = set a (at OFFER + by_volume d v) n

      offer_stored : tables_of words_offered x ≡ with_sessions (tables_of a x) (set_offer (tables_of a x).sessions d v n)
      unfolding tables_of
      offer_stored = rw (stored word_lengths a OFFER (by_volume d v) n place)

      mark_stored : tables_of a x ≡ with_sessions (tables_of w x) (marked (tables_of w x).sessions d v)
      unfolding tables_of
      mark_stored = sessions_become w a x (marked (sessions_of w) d v) marks.1 marks.0

      tables_offered : tables_of words_offered x ≡ offered (tables_of w x) d v n
      unfolding offered
      tables_offered = offer_stored ∙ rw mark_stored

      records_offered : records_of words_offered x ≡ records_of a x
      unfolding records_of
      records_offered = rw (stored word_lengths a OFFER (by_volume d v) n place)

      pub offers : m ≡ offering (numbers_of w) d v n → (tables_of u y ≡ sent (tables_of words_offered x) m) × (records_of u y ≡ records_of words_offered x)
          → (tables_of u y ≡ sent (offered (tables_of w x) d v n) (offering (tables_of w x) d v n)) × (records_of u y ≡ records_of w x)
      offers e f = (
        f.0 ∙ ap (λ (t : Tables). sent t m) tables_offered ∙ ap (sent (offered (tables_of w x) d v n)) (e ∙ offering_same w x d v n),
        f.1 ∙ records_offered ∙ marks.1.records x,
      )

    abbrev words_batched : List ℕ
    words_batched = set w (at BATCH + by_volume d v) n

    tables_batched : tables_of words_batched x ≡ batched (tables_of w x) d v n
    unfolding batched tables_of
    tables_batched = rw (stored word_lengths w BATCH (by_volume d v) n place)

    records_batched : records_of words_batched x ≡ records_of w x
    unfolding records_of
    records_batched = rw (stored word_lengths w BATCH (by_volume d v) n place)

    pub batches : m ≡ batching (numbers_of w) d v n → (tables_of u y ≡ sent (tables_of words_batched x) m) × (records_of u y ≡ records_of words_batched x)
        → (tables_of u y ≡ sent (batched (tables_of w x) d v n) (batching (tables_of w x) d v n)) × (records_of u y ≡ records_of w x)
    batches e f =
        (f.0 ∙ ap (λ (t : Tables). sent t m) tables_batched ∙ ap (sent (batched (tables_of w x) d v n)) (e ∙ batching_same w x d v n), f.1 ∙ records_batched)

  module _ (s : Setup) (d o n held v : ℕ) (p : Placed s o v) (h : d < 16) where
    abbrev words_granted : List ℕ
    words_granted =
        set (set (set (set w (at VOLUME_EXPIRY + v) (get_or w 0 0 + s.tv)) (at SESSION_EXPIRY + by_volume d v) (get_or w 0 0 + s.tv)) (at OBJECT_EXPIRY + o) (get_or w 0 0 + s.t))
        (at LEASE + by_object d o) (get_or w 0 0 + s.t)

    session_place : by_volume d v < 128
    session_place = let l = p.volume in omega arith

    lease_place : by_object d o < 512
    lease_place = let k = p.object in omega arith

    tables_granted : m ≡ granting s (tables_of w x) d o n held → sent (tables_of words_granted x) m ≡ granted s (tables_of w x) d o n held
    unfolding granted object_renewed volume_renewed tables_of
    tables_granted e =
        rw (
          part_at word_lengths w CLOCK 0 (omega arith),
          stored word_lengths _ LEASE (by_object d o) _ lease_place,
          stored word_lengths _ OBJECT_EXPIRY o _ p.object,
          stored word_lengths _ SESSION_EXPIRY (by_volume d v) _ session_place,
          stored word_lengths _ VOLUME_EXPIRY v _ p.volume,
          e,
          p.is,
        )

    records_granted : records_of words_granted x ≡ records_of w x
    unfolding records_of
    records_granted =
        rw (
          stored word_lengths _ LEASE (by_object d o) _ lease_place,
          stored word_lengths _ OBJECT_EXPIRY o _ p.object,
          stored word_lengths _ SESSION_EXPIRY (by_volume d v) _ session_place,
          stored word_lengths _ VOLUME_EXPIRY v _ p.volume,
        )

    pub grants : m ≡ granting s (tables_of w x) d o n held → (tables_of u y ≡ sent (tables_of words_granted x) m) × (records_of u y ≡ records_of words_granted x)
        → (tables_of u y ≡ granted s (tables_of w x) d o n held) × (records_of u y ≡ records_of w x)
    grants e f = (f.0 ∙ tables_granted e, f.1 ∙ records_granted)
