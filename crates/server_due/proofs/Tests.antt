-- When a write is ready, when it is due, and whether a trigger completes it. None of these tests depends on the values.
use Prim.Native.Nat.{ℕ, ◌+◌, ◌<◌}
use native.Mathlib.Omega.{arith}
use mathlib.Core.Bool.{Bool, true, false, not, ◌&&◌, ◌||◌}
use mathlib.Core.List.{List}
use mathlib.Core.Path.{◌≡◌, refl, sym, ◌∙◌}
use lib.Dec.{eqb}
use lib.ListN.{get_or}
use borrow.Author.Tests.{eq-eqb, ne_eqb}
use Rattle.laws.specs.Choice.{not_both}
use Rattle.laws.specs.Flags.{flag, flags, flag_at, flag_yes, flag_no}
use Rattle.laws.specs.Loop.{any_from}
use Rattle.laws.specs.Parts.{parts, part_at}
use Rattle.laws.specs.Sets.{bit_at}
use Rattle.protocol.specs.declared.setup.Setup.{Setup}
use Rattle.protocol.specs.declared.tables.Tables.{Tables}
use Rattle.protocol.specs.Setup.{volume_of}
use Rattle.protocol.specs.Tables.{standing_at}
use Rattle.protocol.specs.Leases.{server_alive, guard_passed, end_over}
use Rattle.protocol.specs.Writes.{ready, due, waited}
use Rattle.lease_tests.specs.Parts.{Placed}
use Rattle.state_words.specs.Fields.{word_lengths, at, CLOCK, GUARD, STANDING, END}
use Rattle.state_words.specs.View.{tables_of, numbers_of}
use Rattle.server_due.specs.declared.Trigger.{Trigger}
use Rattle.server_due.specs.declared.Trigger.TheVariants.{Clock, Volume}
use Rattle.server_due.specs.Triggers.{triggered}
use Rattle.server_waiting.specs.Waiting.{awaited_in}

or_in : (a b x : Bool) → (a && b) ≡ true → true ≡ (a && (b || x))
or_in true true x e = refl
or_in true false x e = not_both refl (sym e)
or_in false b x e = not_both refl (sym e)

or_out : (a b x : Bool) → (a && b) ≡ false → (a && x) ≡ (a && (b || x))
or_out true true x e = not_both refl e
or_out true false x e = refl
or_out false b x e = refl

module _ (s : Setup) (w : List ℕ) (o : ℕ) where
  pub ready_yes : (v : ℕ) (any late : Bool) → Placed s o v → (get_or w (at STANDING + o) 0 ≡ 0 → ⊥) → any ≡ any_from (bit_at (awaited_in w o)) 0 s.clients
      → late ≡ not (server_alive (get_or w 0 0) (get_or w (at GUARD + v) 0)) → (not any && late) ≡ ready s (numbers_of w) o
  unfolding ready waited guard_passed tables_of
  ready_yes v any late p h a b =
      rw (flag_yes word_lengths w STANDING o p.object h, a, b, part_at word_lengths w CLOCK 0 (omega arith), part_at word_lengths w GUARD v p.volume, p.is)

  pub ready_no : o < 32 → get_or w (at STANDING + o) 0 ≡ 0 → false ≡ ready s (numbers_of w) o
  unfolding ready tables_of
  ready_no l h = rw (flag_no word_lengths w STANDING o l h)

  module _ (r : Bool) (e : r ≡ ready s (numbers_of w) o) where
    pub due_ready : r ≡ true → true ≡ due s (numbers_of w) o
    unfolding ready due
    due_ready h = or_in (standing_at (numbers_of w) o) _ _ (sym e ∙ h)

    pub due_over : (y : Bool) → o < 32 → r ≡ false → y ≡ end_over (get_or w 0 0) (get_or w (at END + o) 0) → (flag (get_or w (at STANDING + o) 0) && y) ≡ due s (numbers_of w) o
    unfolding ready due tables_of
    due_over y l h a =
        rw (flag_at word_lengths w STANDING o l, a, part_at word_lengths w CLOCK 0 (omega arith), part_at word_lengths w END o l)
        (or_out (get_or (flags (parts word_lengths w STANDING)) o false) _ _ (sym e ∙ h))

module _ (s : Setup) (p : Trigger) (t : Tables) (o : ℕ) where
  pub by_clock : (r : Bool) → p ≡ Clock → r ≡ due s t o → r ≡ triggered s p t o
  unfolding triggered
  by_clock r a e = rw a e

  pub by_volume_law : (r : Bool) (v u : ℕ) → p ≡ Volume v → Placed s o u → u ≡ v → r ≡ ready s t o → r ≡ triggered s p t o
  unfolding triggered
  by_volume_law r v u a b c e = rw (a, eq-eqb (volume_of s o) v (sym b.is ∙ c)) e

  pub by_other : (v u : ℕ) → p ≡ Volume v → Placed s o u → (u ≡ v → ⊥) → eqb u v ≡ triggered s p t o
  unfolding triggered
  by_other v u a b c = rw (a, ne_eqb u v c, ne_eqb (volume_of s o) v (λ e. c (b.is ∙ e)))
