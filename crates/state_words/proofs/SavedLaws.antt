-- Four saved states beside the present one (02, A7), each in words and values of its own.
-- Letters: s setup, w words, x values, ws and xs the words and the values under each name, n a name, u what is saved under it.
use Rattle.std.specs.Prelude.{ℕ, ◌<◌, true, false, ◌≡◌, length, get_or, set, replicate}
use Rattle.std.proofs.Common.{arith, ap}
use mathlib.Core.List.{List, []}
use Rattle.std.proofs.lemmas.List.{get_or-replicate}
use Rattle.std.proofs.Math.Seq.{get_or-set_same, get_or-set_other}
use Rattle.laws.specs.Flags.{flag}
use Rattle.laws.specs.Line.{never, state}
use Rattle.laws.specs.Parts.{parts, part_at, stored, part_length, part_replicate}
use Rattle.laws.specs.Tabulate.{tabulate_at, tabulate_one, tabulate_set}
use Rattle.protocol.specs.declared.setup.Setup.{Setup}
use Rattle.protocol.specs.Setup.{in_range}
use Rattle.protocol.specs.Tables.{fresh_tables}
use Rattle.protocol.specs.Saved.{names, fresh_machine}
use Rattle.state_words.specs.Fields.{word_lengths, at, WORDS, SAVED}
use Rattle.state_words.specs.View.{tables_of, records_of, fresh_records, world_of}
use Rattle.state_words.proofs.Worlds.{fresh_world_law}
use Rattle.state_words.specs.Saved.{is_saved, saved_in, saved_of, machine_of, marked}

-- the mark as it is read
pub mark_read : (w : List ℕ) → flag (get_or w (at SAVED) 0) ≡ is_saved w
mark_read w = ap flag (part_at word_lengths w SAVED 0 (omega arith))

-- the mark belongs to no table and no record
module _ (s : Setup) (w x : List ℕ) (n : ℕ) where
  tables_unmarked : tables_of (set w (at SAVED) n) x ≡ tables_of w x
  unfolding tables_of
  tables_unmarked = rw (stored word_lengths w SAVED 0 n (omega arith))

  records_unmarked : records_of (set w (at SAVED) n) x ≡ records_of w x
  unfolding records_of
  records_unmarked = rw (stored word_lengths w SAVED 0 n (omega arith))

  pub same_world : world_of s (set w (at SAVED) n) x ≡ world_of s w x
  same_world = rw (tables_unmarked, records_unmarked)

-- marked words are a saved state
pub marked_saved : (s : Setup) (w x : List ℕ) → length w ≡ WORDS → saved_in s (marked w) x ≡ state (world_of s w x)
marked_saved s w x l = rw (stored word_lengths w SAVED 0 1 (omega arith), same_world s w x 1, get_or-set_same (parts word_lengths w SAVED) 0 1 0 first)
  where
    first : 0 < length (parts word_lengths w SAVED)
    first = rw (part_length word_lengths w SAVED (omega arith)) (omega arith)

module _ (s : Setup) (ws xs : List (List ℕ)) (n : ℕ) (h : n < names) where
  pub saved_at : get_or (saved_of s ws xs) n never ≡ saved_in s (get_or ws n []) (get_or xs n [])
  unfolding saved_of
  saved_at = tabulate_at (λ n. saved_in s (get_or ws n []) (get_or xs n [])) names n never h

  -- a state is stored under a name
  pub saved_set : (w x : List ℕ) → length ws ≡ names → length xs ≡ names → saved_of s (set ws n w) (set xs n x) ≡ set (saved_of s ws xs) n (saved_in s w x)
  unfolding saved_of
  saved_set w x a b =
      tabulate_set _ _ (saved_in s w x) names n h
      (λ j l q. rw (get_or-set_other ws n j w [] q, get_or-set_other xs n j x [] q))
      (rw (get_or-set_same ws n w [] (omega arith), get_or-set_same xs n x [] (omega arith)))

-- words of zeros are no saved state
none_saved : (s : Setup) (xs : List (List ℕ)) → saved_of s (replicate names (replicate WORDS 0)) xs ≡ replicate names never
unfolding saved_of
none_saved s xs = tabulate_one _ never 0 names (λ n a b. rw (get_or-replicate names n zeros [] (omega arith), unmarked_zeros))
  where
    zeros : List ℕ
    zeros = replicate WORDS 0

    unmarked_zeros : is_saved zeros ≡ false
    unmarked_zeros = rw (part_replicate word_lengths WORDS 0 SAVED (omega arith))

-- so fresh words beside words of zeros are the machine that a run starts from
pub fresh_machine_law : (s : Setup) (w x : List ℕ) (xs : List (List ℕ)) → in_range s ≡ true → (tables_of w x ≡ fresh_tables) × (records_of w x ≡ fresh_records)
    → machine_of s w x (replicate names (replicate WORDS 0)) xs ≡ fresh_machine s
fresh_machine_law s w x xs i f = rw (fresh_world_law s w x i f, none_saved s xs)
