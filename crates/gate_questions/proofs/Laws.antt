-- Questions 3 to 5 about step x: the answers read from the words w are those of the tables.
use Prim.Native.Nat.{◌+◌, ◌<◌, ◌≤◌, ℕ}
use mathlib.Core.Bool.{Bool, true, not, ◌&&◌, ◌||◌}
use mathlib.Core.List.{List}
use mathlib.Core.Path.{◌≡◌}
use lib.Dec.{ltb, eqb}
use lib.ListN.{get_or}
use Rattle.laws.specs.Choice.{not_not, or_yes}
use Rattle.laws.specs.Flags.{flag_at, flag_past}
use Rattle.protocol.specs.declared.setup.Setup.{Setup}
use Rattle.protocol.specs.declared.step.Step.{Step}
use Rattle.protocol.specs.Setup.{between}
use Rattle.protocol.specs.Sound.{clock_limit}
use Rattle.protocol.specs.Gate.{is_clock, is_write, uses_client, uses_object, uses_place, exists, timely, vacant}
use Rattle.state_words.specs.Fields.{word_lengths, at, STANDING}
use Rattle.state_words.proofs.ReadsLaws.{clock_word, length_word}
use Rattle.state_words.specs.View.{tables_of, numbers_of}

module _ (w : List ℕ) (x : Step) where
  pub exists_words : (s : Setup) (a b c : Bool) → a ≡ uses_client x → b ≡ uses_object x → c ≡ uses_place x
      → ((not a || ltb x.client s.clients) && (not b || ltb x.object s.objects) && (not c || ltb x.place (get_or w 1 0))) ≡ exists s (numbers_of w) x
  unfolding exists
  exists_words s a b c p q u = rw (p, q, u, length_word w _)

  pub timely_words : (a : Bool) → a ≡ is_clock x → (not a || between (get_or w 0 0) clock_limit x.clock) ≡ timely (numbers_of w) x
  unfolding timely
  timely_words a p = rw (p, clock_word w _)

  pub vacant_words : x.object < 32 → (not (is_write x) || eqb (get_or w (at STANDING + x.object) 0) 0) ≡ vacant (numbers_of w) x
  unfolding vacant tables_of
  vacant_words h = rw (← not_not (eqb (get_or w (at STANDING + x.object) 0) 0), flag_at word_lengths w STANDING x.object h)

  pub vacant_past : 32 ≤ x.object → true ≡ vacant (numbers_of w) x
  unfolding vacant tables_of
  vacant_past h = rw (flag_past word_lengths w STANDING x.object h) (or_yes (not (is_write x)))
