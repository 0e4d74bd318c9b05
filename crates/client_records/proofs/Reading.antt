-- Reading and storing a copy in the words, reading a request, and sweeping copies.
use Prim.Native.Nat.{ℕ, ◌+◌, ◌-◌, ◌%◌, ◌<◌, ◌≤◌}
use native.Mathlib.Omega.{arith}
use mathlib.Core.List.{List}
use mathlib.Core.Path.{◌≡◌, sym, ap, ◌∙◌}
use lib.ListN.{length, get_or, set}
use lib.Seq.{get_or-set_same, get_or-set_other}
use Rattle.laws.specs.Flags.{flag}
use Rattle.laws.specs.Loop.{fold_from, fold_again, fold_end}
use Rattle.laws.specs.Parts.{parts, part_at, part_length, stored}
use Rattle.laws.specs.Tabulate.{tabulate, tabulate_at, tabulate_set}
use Rattle.protocol.specs.declared.records.Copy.{Copy}
use Rattle.protocol.specs.declared.records.Request.{Request}
use Rattle.protocol.specs.declared.setup.Setup.{Setup}
use Rattle.protocol.specs.declared.step.Sweep.{Sweep}
use Rattle.protocol.specs.Tables.{no_copy, no_request}
use Rattle.protocol.specs.Client.{swept, sweep_at}
use Rattle.state_words.specs.Fields.{word_lengths, value_lengths, at, at_value, WORDS, VALUES, COPY_VERSION, COPY_EXPIRY, REQUEST_NEXT, REQUEST_STANDING, REQUEST_NUMBER, REQUEST_OBJECT, COPY_VALUE}
use Rattle.state_words.specs.View.{tables_of, copy_at, request_at, Records, records_of, requests_of}
use Rattle.client_records.specs.Stores.{with_copy, swept_over}

-- ---- a copy

pub copy_read : (w x : List ℕ) (i : ℕ) → i < 512
    → record { version = get_or w (at COPY_VERSION + i) 0; value = get_or x (at_value COPY_VALUE + i) 0; expiry = get_or w (at COPY_EXPIRY + i) 0 }
    ≡ get_or (records_of w x).copies i no_copy
unfolding records_of
copy_read w x i h =
    rw (part_at word_lengths w COPY_VERSION i h, part_at value_lengths x COPY_VALUE i h, part_at word_lengths w COPY_EXPIRY i h)
    (sym (tabulate_at (copy_at (parts word_lengths w COPY_VERSION) (parts value_lengths x COPY_VALUE) (parts word_lengths w COPY_EXPIRY)) 512 i no_copy h))

copies_set : (a b c : List ℕ) (i : ℕ) (y : Copy) → i < 512 → length a ≡ 512 → length b ≡ 512 → length c ≡ 512
    → tabulate (copy_at (set a i y.version) (set b i y.value) (set c i y.expiry)) 0 512 ≡ set (tabulate (copy_at a b c) 0 512) i y
copies_set a b c i y h k l m =
    tabulate_set (copy_at a b c) (copy_at (set a i y.version) (set b i y.value) (set c i y.expiry)) y 512 i h
    (λ j p n. rw (get_or-set_other a i j y.version 0 n, get_or-set_other b i j y.value 0 n, get_or-set_other c i j y.expiry 0 n))
    (rw (get_or-set_same a i y.version 0 (omega arith), get_or-set_same b i y.value 0 (omega arith), get_or-set_same c i y.expiry 0 (omega arith)))

module _ (w x : List ℕ) (i : ℕ) (y : Copy) (h : i < 512) (lw : length w ≡ WORDS) (lx : length x ≡ VALUES) where
  abbrev words_copied : List ℕ
  words_copied = set (set w (at COPY_VERSION + i) y.version) (at COPY_EXPIRY + i) y.expiry

  abbrev values_copied : List ℕ
  values_copied = set x (at_value COPY_VALUE + i) y.value

  tables_copied : tables_of words_copied values_copied ≡ tables_of w x
  unfolding tables_of
  tables_copied = rw (stored word_lengths _ COPY_EXPIRY i y.expiry h, stored word_lengths _ COPY_VERSION i y.version h, stored value_lengths _ COPY_VALUE i y.value h)

  records_copied : records_of words_copied values_copied ≡ with_copy (records_of w x) i y
  unfolding records_of
  records_copied =
      rw (
        stored word_lengths _ COPY_EXPIRY i y.expiry h,
        stored word_lengths _ COPY_VERSION i y.version h,
        stored value_lengths _ COPY_VALUE i y.value h,
        copies_set (parts word_lengths w COPY_VERSION) (parts value_lengths x COPY_VALUE)
            (parts word_lengths w COPY_EXPIRY) i y h (part_length word_lengths w COPY_VERSION (omega arith))
            (part_length value_lengths x COPY_VALUE (omega arith)) (part_length word_lengths w COPY_EXPIRY (omega arith)),
      )

  pub copy_stored : (tables_of words_copied values_copied ≡ tables_of w x) × (records_of words_copied values_copied ≡ with_copy (records_of w x) i y)
  copy_stored = (tables_copied, records_copied)

-- ---- a request

pub request_read : (w : List ℕ) (d : ℕ) → d < 16
    → record {
      next = get_or w (at REQUEST_NEXT + d) 0;
      standing = flag (get_or w (at REQUEST_STANDING + d) 0);
      number = get_or w (at REQUEST_NUMBER + d) 0;
      object = get_or w (at REQUEST_OBJECT + d) 0 % 256;
    }
    ≡ get_or (requests_of w) d no_request
unfolding records_of
request_read w d h =
    rw (part_at word_lengths w REQUEST_NEXT d h, part_at word_lengths w REQUEST_STANDING d h, part_at word_lengths w REQUEST_NUMBER d h, part_at word_lengths w REQUEST_OBJECT d h)
    (sym (tabulate_at (request_at (parts word_lengths w REQUEST_NEXT) (parts word_lengths w REQUEST_STANDING) (parts word_lengths w REQUEST_NUMBER)
    (parts word_lengths w REQUEST_OBJECT)) 16 d no_request h))

-- ---- a sweep: one iteration, and the end of the loop

pub sweep_again : (s : Setup) (g : Sweep) (first N k : ℕ) (q u : Records) (c y : Copy) (l : List Request) (A : List Copy) → k < N → c ≡ get_or q.copies k no_copy
    → y ≡ swept s g c (k - first) → u ≡ with_copy q k y → (q.requests ≡ l) × (fold_from (sweep_at s g first) q.copies k (N - k) ≡ A)
    → (u.requests ≡ l) × (fold_from (sweep_at s g first) u.copies (k + 1) (N - (k + 1)) ≡ A)
sweep_again s g first N k q u c y l A h a b e f =
    (rw e f.0, fold_again (sweep_at s g first) N k q.copies u.copies A h (ap (λ (q : Records). q.copies) e ∙ rw (b, a)) f.1)

pub swept_end : (s : Setup) (g : Sweep) (first n k : ℕ) (q u : Records) → first + n ≤ k → u.requests ≡ q.requests
    → fold_from (sweep_at s g first) u.copies k (first + n - k) ≡ fold_from (sweep_at s g first) q.copies first n → u ≡ swept_over s g first n q
swept_end s g first n k q u h e f =
    joined (fold_end (sweep_at s g first) (first + n) k u.copies (fold_from (sweep_at s g first) q.copies first n) h f) e
  where
    joined : {a b : List Copy} → {c d : List Request} → a ≡ b → c ≡ d → ◌≡◌ {A = Records} (record { copies = a; requests = c }) (record { copies = b; requests = d })
    joined a c = cc
