-- Whichever step completes writes: the tables that it leaves, the number that it reports and the events that the ledger books go together.
-- Letters: s setup, t and u tables, k their shape, c and d tables with a count, n a count or how many objects are left, g what is staged, l and m
-- ledgers, h what holds before, o and j objects, T clock, b a test; the others are proofs.
use Prim.Native.Nat.{ℕ, zero, suc, ◌+◌, ◌<◌, ◌≤◌}
use Rattle.std.proofs.Common.{arith, sym, ap, ◌∙◌, get_or-set_other}
use Rattle.std.specs.Prelude.{Bool, cond, not, ◌&&◌, ◌||◌, List, [], ◌∷◌, map, ◌≡◌, length}
use Rattle.std.proofs.Math.Bool.{true, false}
use Rattle.std.proofs.Math.Logic.{⊎_elim}
use Rattle.std.proofs.Math.Path.{refl}
use Rattle.laws.specs.Choice.{same?, not_both, and-true, cond_keeps}
use Rattle.laws.specs.Loop.{fold_from}
use Rattle.laws.specs.Each.{cleared}
use Rattle.laws.specs.Count.{fold_carries}
use Rattle.protocol.specs.declared.setup.Setup.{Setup}
use Rattle.protocol.specs.declared.tables.Tables.{Tables}
use Rattle.protocol.specs.Setup.{volume_of}
use Rattle.protocol.specs.Tables.{standing_at, end_at}
use Rattle.protocol.specs.Leases.{guard_passed, end_over}
use Rattle.protocol.specs.Writes.{Counted, waited, ready, due, posted, completed, Staged, complete_if, settled, settling, clock_set, clock_staged}
use Rattle.protocol.specs.Ledger.{completion, settling_of, is_open, Ledger, book, book_all}
use Rattle.protocol.specs.Soundness.Shape.{Shape}
use Rattle.protocol.specs.Bookkeeping.Booked.{Booked}
use Rattle.protocol.proofs.Bookkeeping.Booked.{same_booked, standing_open, completed_booked}
use Rattle.protocol.specs.Ranges.{Ranges}
use Rattle.protocol.proofs.Soundness.ShapeKept.{completed_shape}
use Rattle.protocol.specs.Bookkeeping.Settled.{OnlyStanding, OpenEach, Settlement, StagedOn, Ended}

pub ready_stands : (s : Setup) → OnlyStanding (ready s)
unfolding ready
ready_stands s t o e = (and-true (standing_at t o) _ e).0

pub due_stands : (s : Setup) → OnlyStanding (due s)
unfolding due
due_stands s t o e = (and-true (standing_at t o) _ e).0

module _ (s : Setup) (rs : Ranges s) (test : Tables → ℕ → Bool) (stands : OnlyStanding test) where
  abbrev Leads : ℕ → ℕ → Counted → Ledger → Type 0
  Leads j n c l = Settlement s l c.count (fold_from (complete_if test s) c j n) (settling test s c.tables j n)

  settle_from : (j n : ℕ) → j + n ≤ s.objects → (c : Counted) (l : Ledger) → Shape c.tables → Booked s c.tables l → Leads j n c l
  unfolding fold_from settling book_all OpenEach
  settle_from j zero f c l k h = record { booked = h; counts = omega arith; opens = tt }
  settle_from j (suc n) f c l k h = go (test c.tables j) refl (λ d m. settle_from (j + 1) n (omega arith) d m)
    where
      next : Counted
      next = record { count = c.count + 1; tables = completed s c.tables j }

      go : (b : Bool) → test c.tables j ≡ b → ((d : Counted) (m : Ledger) → Shape d.tables → Booked s d.tables m → Leads (j + 1) n d m)
          → Settlement s l c.count (fold_from (complete_if test s) (cond b next c) (j + 1) n)
          (cond b (j ∷ settling test s (completed s c.tables j) (j + 1) n) (settling test s c.tables (j + 1) n))
      go true e rest =
          let r = rest next (book s l (completion j)) (completed_shape s c.tables j k) (completed_booked s rs c.tables k l h j (omega arith) (stands c.tables j e)) in
          record {
            booked = r.booked;
            counts = r.counts ∙ omega arith;
            opens = (ap is_open (standing_open s rs c.tables k l h j (omega arith) (stands c.tables j e)), r.opens);
          }
      go false e rest = rest c l k h

-- ---- a step that stages g on tables t
pub settle : (s : Setup) (rs : Ranges s) (t : Tables) (g : Staged) (l : Ledger) → StagedOn s t g → Booked s t l → Settlement s l 0 (settled s g) (settling_of s g)
unfolding settled
settle s rs t g l a h =
    settle_from s rs g.test a.stands g.from g.many a.fits (record { count = 0; tables = g.tables }) l a.shape (same_booked s t g.tables l a.same h)

pub completions_counted : (s : Setup) (l : Ledger) (os : List ℕ) → (book_all s l (map completion os)).completed_count ≡ l.completed_count + length os
unfolding book_all book
completions_counted s l [] = omega arith
completions_counted s l (o ∷ os) = completions_counted s (book s l (completion o)) os ∙ omega arith

-- ---- after a clock step
module _ (s : Setup) (T : ℕ) where
  -- a write that completes stands no longer, and no other changes
  completed_ended : (c : Counted) (j n : ℕ) → Ended T j c → Ended T (j + 1) (record { count = n; tables = completed s c.tables j })
  unfolding completed posted
  completed_ended c j n h = record {
    clock = h.clock;
    ends = λ o p e.
        ⊎_elim (λ f. not_both e (rw f (cleared c.tables.objects.standing j)))
        (λ f.
        rw (get_or-set_other c.tables.objects.end j o 0 0 f)
        (h.ends o (omega arith) (sym (get_or-set_other c.tables.objects.standing j o false false f) ∙ e)))
        (same? o j);
  }

  not_due : (c : Counted) (j : ℕ) → c.tables.clock ≡ T → due s c.tables j ≡ false → standing_at c.tables j ≡ true → end_over T (end_at c.tables j) ≡ false
  unfolding due
  not_due c j e f p = go (standing_at c.tables j) (not (waited s c.tables j) && guard_passed c.tables (volume_of s j)) p f
    where
      go : (stands b : Bool) → stands ≡ true → (stands && (b || end_over c.tables.clock (end_at c.tables j))) ≡ false → end_over T (end_at c.tables j) ≡ false
      go true true p f = not_both refl f
      go true false p f = rw e at f
      go false b p f = not_both p refl

  kept_ended : (c : Counted) (j : ℕ) → due s c.tables j ≡ false → Ended T j c → Ended T (j + 1) c
  kept_ended c j f h = record {
    clock = h.clock;
    ends = λ o p e. ⊎_elim (λ q. rw q (not_due c j h.clock f (rw q at e))) (λ q. h.ends o (omega arith) e) (same? o j);
  }

  turn_ended : (c : Counted) (j : ℕ) → j < s.objects → Ended T j c → Ended T (j + 1) (complete_if (due s) s c j)
  turn_ended c j p h =
      cond_keeps (Ended T (j + 1)) (due s c.tables j) (λ e. completed_ended c j (c.count + 1) h) (λ e. kept_ended c j e h)

  -- after a clock step to T no standing write is past its latest end
  pub clock_ended : (t : Tables) → Ended T s.objects (settled s (clock_staged s t T))
  unfolding settled clock_set
  clock_ended t =
      fold_carries (Ended T) (complete_if (due s) s) s.objects turn_ended _ 0 s.objects (omega arith)
      (record { clock = refl; ends = λ o p e. absurd (omega arith) })
