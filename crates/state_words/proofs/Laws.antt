-- Fresh words and values hold fresh tables and fresh records.
use Prim.Native.Nat.{ℕ, ◌+◌, ◌≤◌}
use native.Mathlib.Omega.{arith}
use mathlib.Core.Bool.{Bool, true, false, cond}
use mathlib.Core.List.{List}
use mathlib.Core.Path.{◌≡◌, refl, ◌∙◌}
use lib.ListN.{length, replicate, length-replicate, get_or-replicate}
use borrow.Author.Tests.{le-ltb}
use Rattle.laws.specs.Choice.{not_both}
use Rattle.laws.specs.Each.{replicate_at}
use Rattle.laws.specs.Flags.{flags_zero}
use Rattle.laws.specs.Parts.{start, size, parts, part_replicate, filling, length_filled, filled_field}
use Rattle.laws.specs.Tabulate.{tabulate, tabulate_one}
use Rattle.protocol.specs.declared.setup.Setup.{Setup}
use Rattle.protocol.specs.Setup.{in_range}
use Rattle.protocol.specs.Messages.{blank}
use Rattle.protocol.specs.Tables.{fresh_tables, no_copy, fresh_request}
use Rattle.state_words.specs.Fields.{word_lengths, value_lengths, at, WORDS, VALUES, CLOCK, LENGTH, VOLUME_EPOCH, VOLUME_EXPIRY, GUARD}
use Rattle.state_words.specs.Fields.{SEEN, SESSION_EXPIRY, UNREACHABLE, OFFER, VERSION, OBJECT_EXPIRY, STANDING, END, LEASE, WAITING, NOTES, BATCH}
use Rattle.state_words.specs.Fields.{VIEW_EPOCH, VIEW_EXPIRY, COPY_VERSION, COPY_EXPIRY, REQUEST_NEXT, REQUEST_STANDING}
use Rattle.state_words.specs.Fields.{REQUEST_NUMBER, REQUEST_OBJECT, VALUE, PENDING, COPY_VALUE}
use Rattle.state_words.specs.Rows.{message_from}
use Rattle.state_words.specs.View.{tables_of, copy_at, request_at, records_of, fresh_records}

no_messages : (rows values : List ℕ) (n : ℕ) → tabulate (message_from 0 rows values) 0 n ≡ replicate n blank
unfolding message_from
no_messages rows values n = tabulate_one (message_from 0 rows values) blank 0 n (λ j a b. rw (le-ltb j 0 (omega arith)))

no_copies : (n : ℕ) → tabulate (copy_at (replicate n 0) (replicate n 0) (replicate n 0)) 0 n ≡ replicate n no_copy
no_copies n = tabulate_one (copy_at (replicate n 0) (replicate n 0) (replicate n 0)) no_copy 0 n (λ j a b. rw (replicate_at {A = ℕ} n j 0))

no_requests : (n : ℕ) → tabulate (request_at (replicate n 1) (replicate n 0) (replicate n 0) (replicate n 0)) 0 n ≡ replicate n fresh_request
no_requests n =
    tabulate_one (request_at (replicate n 1) (replicate n 0) (replicate n 0) (replicate n 0)) fresh_request 0 n
    (λ j a b. rw (replicate_at {A = ℕ} n j 0, get_or-replicate {A = ℕ} n j 1 0 (omega arith)))

-- w and x are all 0 at first; then epochs, versions and next request numbers are filled in
module _ (w x a b c : List ℕ) (l : length w ≡ WORDS)
    (none : (k : ℕ) → start word_lengths k + size word_lengths k ≤ WORDS → parts word_lengths w k ≡ replicate (size word_lengths k) 0)
    (empty : (k : ℕ) → start value_lengths k + size value_lengths k ≤ VALUES → parts value_lengths x k ≡ replicate (size value_lengths k) 0)
    (e : a ≡ filling (at VOLUME_EPOCH) 8 1 w) (f : b ≡ filling (at VERSION) 32 1 a) (g : c ≡ filling (at REQUEST_NEXT) 16 1 b) where
  tables_filled : tables_of c x ≡ fresh_tables
  unfolding tables_of fresh_tables
  tables_filled =
      let i = length_filled (at VOLUME_EPOCH) 8 1 w a e in
      let j = length_filled (at VERSION) 32 1 a b f in
      rw (
        filled_field word_lengths b c REQUEST_NEXT 1 (omega arith) g,
        filled_field word_lengths a b VERSION 1 (omega arith) f,
        filled_field word_lengths w a VOLUME_EPOCH 1 (omega arith) e,
        none CLOCK (omega arith),
        none LENGTH (omega arith),
        none VOLUME_EXPIRY (omega arith),
        none GUARD (omega arith),
        none SEEN (omega arith),
        none SESSION_EXPIRY (omega arith),
        none UNREACHABLE (omega arith),
        none OFFER (omega arith),
        none OBJECT_EXPIRY (omega arith),
        none STANDING (omega arith),
        none END (omega arith),
        none LEASE (omega arith),
        none WAITING (omega arith),
        none NOTES (omega arith),
        none BATCH (omega arith),
        none VIEW_EPOCH (omega arith),
        none VIEW_EXPIRY (omega arith),
        empty VALUE (omega arith),
        empty PENDING (omega arith),
        no_messages _ _ 64,
        flags_zero 128,
        flags_zero 32,
      )

  records_filled : records_of c x ≡ fresh_records
  unfolding records_of
  records_filled =
      let i = length_filled (at VOLUME_EPOCH) 8 1 w a e in
      let j = length_filled (at VERSION) 32 1 a b f in
      rw (
        filled_field word_lengths b c REQUEST_NEXT 1 (omega arith) g,
        filled_field word_lengths a b VERSION 1 (omega arith) f,
        filled_field word_lengths w a VOLUME_EPOCH 1 (omega arith) e,
        none COPY_VERSION (omega arith),
        none COPY_EXPIRY (omega arith),
        none REQUEST_STANDING (omega arith),
        none REQUEST_NUMBER (omega arith),
        none REQUEST_OBJECT (omega arith),
        empty COPY_VALUE (omega arith),
        no_copies 512,
        no_requests 16,
      )

pub fresh_filled : (a b c : List ℕ) → a ≡ filling (at VOLUME_EPOCH) 8 1 (replicate WORDS 0) → b ≡ filling (at VERSION) 32 1 a → c ≡ filling (at REQUEST_NEXT) 16 1 b
    → (tables_of c (replicate VALUES 0) ≡ fresh_tables) × (records_of c (replicate VALUES 0) ≡ fresh_records)
fresh_filled a b c e f g = (
  tables_filled (replicate WORDS 0) (replicate VALUES 0) a b c (length-replicate {A = ℕ} WORDS 0)
      (part_replicate word_lengths WORDS 0) (part_replicate value_lengths VALUES 0) e f g,
  records_filled (replicate WORDS 0) (replicate VALUES 0) a b c (length-replicate {A = ℕ} WORDS 0)
      (part_replicate word_lengths WORDS 0) (part_replicate value_lengths VALUES 0) e f g,
)

-- ---- `fresh_for`: w and x become v and y, and n is returned
abbrev Answers : Setup → List ℕ → List ℕ → List ℕ → List ℕ → ℕ → Type 0
Answers s w x v y n =
    (n ≡ cond (in_range s) 0 7)
    × ((in_range s ≡ true → (tables_of v y ≡ fresh_tables) × (records_of v y ≡ fresh_records)) × (in_range s ≡ false → (v ≡ w) × (y ≡ x)))

-- b is the result of `in_range`
module _ (s : Setup) (b : Bool) (h : b ≡ in_range s) (w x : List ℕ) where
  pub fresh_yes : (v y : List ℕ) → b ≡ true → (tables_of v y ≡ fresh_tables) × (records_of v y ≡ fresh_records) → Answers s w x v y 0
  fresh_yes v y a f = (rw (← h, a), ((λ i. f), (λ i. not_both a (h ∙ i))))

  pub fresh_no : b ≡ false → Answers s w x w x 7
  fresh_no a = (rw (← h, a), ((λ i. not_both (h ∙ i) a), (λ i. (refl, refl))))
