-- Completing writes in object order, and the clock step.
use Prim.Native.Nat.{ℕ, ◌+◌, ◌-◌, ◌<◌}
use native.Mathlib.Omega.{arith}
use mathlib.Core.Bool.{Bool, true, false}
use mathlib.Core.List.{List}
use mathlib.Core.Path.{◌≡◌, refl, sym, ap, ◌∙◌, fun_ext}
use lib.ListN.{length, set}
use lib.Seq.{get_or-set_same}
use Rattle.laws.specs.Choice.{and-true}
use Rattle.laws.specs.Loop.{fold_from, fold_again}
use Rattle.laws.specs.Parts.{parts, part_length, stored}
use Rattle.protocol.specs.declared.setup.Setup.{Setup}
use Rattle.protocol.specs.declared.tables.Tables.{Tables}
use Rattle.protocol.specs.Tables.{standing_at, version_at, with_clock, with_sessions}
use Rattle.protocol.specs.Leases.{guard_passed}
use Rattle.protocol.specs.Writes.{Counted, waited, ready, due, completed, complete_if, settled, aged, clock_set, clock_staged}
use Rattle.protocol.specs.Server.{of_volume}
use Rattle.protocol.specs.SoundLaws.{Growing}
use Rattle.protocol.proofs.SoundLaws.{completed_keeps}
use Rattle.state_words.specs.Fields.{word_lengths, WORDS, CLOCK}
use Rattle.state_words.specs.View.{tables_of, numbers_of, records_of}
use Rattle.server_marks.specs.SessionWords.{sessions_of, OnlySessions, sessions_become}
use Rattle.server_due.specs.declared.Trigger.{Trigger}
use Rattle.server_due.specs.declared.Trigger.TheVariants.{Clock, Volume}
use Rattle.server_due.specs.Triggers.{triggered, trigger_staged}

-- the tests do not depend on the values
triggered_same : (s : Setup) (p : Trigger) (w x : List ℕ) → triggered s p (numbers_of w) ≡ triggered s p (tables_of w x)
unfolding triggered due ready waited guard_passed tables_of
triggered_same s Clock w x = fun_ext (λ o. refl)
triggered_same s (Volume v) w x = fun_ext (λ o. refl)

module _ (s : Setup) (p : Trigger) where
  stands : (p : Trigger) (t : Tables) (o : ℕ) → triggered s p t o ≡ true → standing_at t o ≡ true
  unfolding triggered due ready
  stands Clock t o e = (and-true (standing_at t o) _ e).0
  stands (Volume v) t o e = (and-true (standing_at t o) _ (and-true (of_volume s v o) _ e).1).0

  -- r says whether the write of o completes, as found in the words
  module _ (w x : List ℕ) (o : ℕ) (r : Bool) (e : r ≡ triggered s p (numbers_of w) o) where
    tested : r ≡ triggered s p (tables_of w x) o
    tested = rw (← triggered_same s p w x) e

    pub settle_version : r ≡ true → Growing s (tables_of w x).objects → o < s.objects → version_at (tables_of w x) o < 4294967295
    settle_version h g l = g.below o l (stands p (tables_of w x) o (sym tested ∙ h))

    module _ (n : ℕ) (A : Counted) (l : o < s.objects) (i : fold_from (complete_if (triggered s p) s) (record { count = n; tables = tables_of w x }) o (s.objects - o) ≡ A) where
      pub settle_done : (t : Tables) → r ≡ true → t ≡ completed s (tables_of w x) o
          → fold_from (complete_if (triggered s p) s) (record { count = n + 1; tables = t }) (o + 1) (s.objects - (o + 1)) ≡ A
      settle_done t h f =
          fold_again (complete_if (triggered s p) s) s.objects o (record { count = n; tables = tables_of w x }) (record { count = n + 1; tables = t }) A l
          (rw (sym tested ∙ h, f)) i

      pub settle_passed : r ≡ false → fold_from (complete_if (triggered s p) s) (record { count = n; tables = tables_of w x }) (o + 1) (s.objects - (o + 1)) ≡ A
      settle_passed h =
          let c : Counted = record { count = n; tables = tables_of w x } in
          fold_again (complete_if (triggered s p) s) s.objects o c c A l (rw (sym tested ∙ h)) i

pub settle_grows : (s : Setup) (t u : Tables) (o : ℕ) → Growing s t.objects → u ≡ completed s t o → Growing s u.objects
settle_grows s t u o g e = rw e (completed_keeps s t o g)

-- ---- the clock step

-- a are the words after the notes have aged
module _ (s : Setup) (w x a : List ℕ) (clock : ℕ) (e : (sessions_of a ≡ aged s clock (sessions_of (set w 0 clock))) × OnlySessions (set w 0 clock) a) where
  abbrev set_clock : List ℕ
  set_clock = set w 0 clock

  clocked : length w ≡ WORDS → tables_of set_clock x ≡ with_clock (tables_of w x) clock
  unfolding tables_of
  clocked h =
      rw (stored word_lengths w CLOCK 0 clock (omega arith), get_or-set_same (parts word_lengths w CLOCK) 0 clock 0 (omega (arith, part_length word_lengths w CLOCK (omega arith))))

  sessions_same : sessions_of set_clock ≡ (tables_of w x).sessions
  unfolding tables_of
  sessions_same = rw (stored word_lengths w CLOCK 0 clock (omega arith))

  clock_aged : length w ≡ WORDS → tables_of a x ≡ clock_set s (tables_of w x) clock
  unfolding clock_set
  clock_aged h =
      sessions_become set_clock a x (aged s clock (tables_of w x).sessions) e.1 (e.0 ∙ ap (aged s clock) sessions_same)
      ∙ ap (λ (t : Tables). with_sessions t (aged s clock (tables_of w x).sessions)) (clocked h)

  pub clock_grows : length w ≡ WORDS → Growing s (tables_of w x).objects → Growing s (tables_of a x).objects
  unfolding clock_set
  clock_grows h g = record { below = rw (clock_aged h) g.below }

  records_clocked : records_of a x ≡ records_of w x
  unfolding records_of
  records_clocked = e.1.records x ∙ rw (stored word_lengths w CLOCK 0 clock (omega arith))

  pub clock_settles : (r : Counted) (u v : List ℕ) → length w ≡ WORDS
      → (r ≡ settled s (trigger_staged s Clock (tables_of a x))) × (records_of u v ≡ records_of a x)
      → (r ≡ settled s (clock_staged s (tables_of w x) clock)) × (records_of u v ≡ records_of w x)
  unfolding triggered
  clock_settles r u v h f = (rw (← clock_aged h) f.0, f.1 ∙ records_clocked)
