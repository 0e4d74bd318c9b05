-- Storing a request in the words replaces that record and changes no table.
use Rattle.std.specs.Prelude.{ℕ, ◌%◌, ◌<◌, List, ◌≡◌, length, set}
use Rattle.std.proofs.Common.{arith, ap, ◌∙◌, get_or-set_same, get_or-set_other}
use Rattle.laws.specs.Flags.{word_of, flag_word}
use Rattle.laws.specs.Parts.{parts, part_length, stored}
use Rattle.laws.specs.Tabulate.{tabulate, tabulate_set}
use Rattle.protocol.specs.declared.records.Request.{Request}
use Rattle.state_words.specs.Fields.{word_lengths, WORDS, REQUEST_NEXT, REQUEST_STANDING, REQUEST_NUMBER, REQUEST_OBJECT}
use Rattle.state_words.specs.View.{tables_of, request_at, records_of}
use Rattle.client_records.specs.Stores.{RequestPut, with_request, request_stored}

requests_set : (a b c e : List ℕ) (d : ℕ) (r : Request) → d < 16 → r.object < 256 → length a ≡ 16 → length b ≡ 16 → length c ≡ 16 → length e ≡ 16
    → tabulate (request_at (set a d r.next) (set b d (word_of r.standing)) (set c d r.number) (set e d r.object)) 0 16 ≡ set (tabulate (request_at a b c e) 0 16) d r
requests_set a b c e d r h n k l m p =
    tabulate_set (request_at a b c e) (request_at (set a d r.next) (set b d (word_of r.standing)) (set c d r.number) (set e d r.object)) r 16 d h
    (λ j q n. rw (get_or-set_other a d j r.next 0 n, get_or-set_other b d j (word_of r.standing) 0 n, get_or-set_other c d j r.number 0 n, get_or-set_other e d j r.object 0 n))
    (rw (
      get_or-set_same a d r.next 0 (omega arith),
      get_or-set_same b d (word_of r.standing) 0 (omega arith),
      get_or-set_same c d r.number 0 (omega arith),
      get_or-set_same e d r.object 0 (omega arith),
      flag_word r.standing,
      byte,
    ))
  where
    byte : r.object % 256 ≡ r.object
    byte = omega arith

module _ (w x : List ℕ) (d : ℕ) (r : Request) (h : d < 16) (n : r.object < 256) (lw : length w ≡ WORDS) where
  tables_requested : tables_of (request_stored w d r) x ≡ tables_of w x
  unfolding tables_of
  tables_requested =
      rw (
        stored word_lengths _ REQUEST_OBJECT d r.object h,
        stored word_lengths _ REQUEST_NUMBER d r.number h,
        stored word_lengths _ REQUEST_STANDING d (word_of r.standing) h,
        stored word_lengths _ REQUEST_NEXT d r.next h,
      )

  records_requested : records_of (request_stored w d r) x ≡ with_request (records_of w x) d r
  unfolding records_of
  records_requested =
      rw (
        stored word_lengths _ REQUEST_OBJECT d r.object h,
        stored word_lengths _ REQUEST_NUMBER d r.number h,
        stored word_lengths _ REQUEST_STANDING d (word_of r.standing) h,
        stored word_lengths _ REQUEST_NEXT d r.next h,
        requests_set (parts word_lengths w REQUEST_NEXT)
            (parts word_lengths w REQUEST_STANDING) (parts word_lengths w REQUEST_NUMBER)
            (parts word_lengths w REQUEST_OBJECT) d r h n (part_length word_lengths w REQUEST_NEXT (omega arith))
            (part_length word_lengths w REQUEST_STANDING (omega arith))
            (part_length word_lengths w REQUEST_NUMBER (omega arith))
            (part_length word_lengths w REQUEST_OBJECT (omega arith)),
      )

pub request_stored_law : (w u x : List ℕ) (d : ℕ) (r : Request) → d < 16 → RequestPut w u d r → (tables_of u x ≡ tables_of w x) × (records_of u x ≡ with_request (records_of w x) d r)
request_stored_law w u x d r h p =
    (ap (λ (u : List ℕ). tables_of u x) p.is ∙ tables_requested w x d r h p.byte p.long, ap (λ (u : List ℕ). records_of u x) p.is ∙ records_requested w x d r h p.byte p.long)
