-- The ledger against the server's tables, and what one event changes.
-- Letters: s setup, t and u tables, k their shape, l a ledger, h that it is booked, o and j objects, y value, w a write; the others are proofs.
use Prim.Native.Nat.{ℕ, suc, ◌<◌}
use Rattle.std.proofs.Common.{arith, ◌∙◌}
use Rattle.std.specs.Prelude.{true, ◌≡◌}
use Rattle.std.proofs.Math.Bool.{false}
use Rattle.std.proofs.Math.Logic.{⊎_elim}
use Rattle.std.proofs.Math.Path.{refl, sym, ap}
use Rattle.std.proofs.Math.Seq.{get_or-set_same, get_or-set_other}
use borrow.Author.Tests.{eq-eqb, ne_eqb}
use Rattle.laws.specs.Choice.{same?}
use Rattle.laws.specs.Loop.{count_from}
use Rattle.laws.specs.Updated.{updated, updated_same, updated_other}
use Rattle.laws.specs.Each.{replicate_at}
use Rattle.laws.specs.Count.{count_none, count_less}
use Rattle.protocol.specs.declared.setup.Setup.{Setup}
use Rattle.protocol.specs.declared.tables.Tables.{Tables}
use Rattle.protocol.specs.Tables.{standing_at, pending_at, end_at, fresh_tables}
use Rattle.protocol.specs.Writes.{latest_end, opened, begun, posted, completed}
use Rattle.protocol.specs.Server.{server_restarted}
use Rattle.protocol.specs.Ledger.{acceptance, completion, server_restart, none, write, is_open, Ledger, empty_ledger, open_count, book}
use Rattle.protocol.specs.Agreement.{standing_write}
use Rattle.protocol.specs.Ranges.{Ranges}
use Rattle.protocol.specs.Soundness.Shape.{Shape}
use Rattle.protocol.specs.Bookkeeping.Booked.{Booked, SameWrites}

-- ---- tables that differ in nothing that the ledger has
pub same_booked : (s : Setup) (t u : Tables) (l : Ledger) → SameWrites t u → Booked s t l → Booked s u l
same_booked s t u l e h = record {
  values = λ o p. rw e.value (h.values o p);
  writes = λ o p. rw (e.standing, e.pending, e.end) (h.writes o p);
  tallies = h.tallies;
}

module _ (s : Setup) (rs : Ranges s) (t : Tables) (k : Shape t) (l : Ledger) (h : Booked s t l) where
  pub standing_open : (o : ℕ) → o < s.objects → standing_at t o ≡ true → l.open_write o ≡ write (pending_at t o) (end_at t o)
  standing_open o p e = sym (h.writes o p) ∙ rw e

  pub vacant_closed : (o : ℕ) → o < s.objects → standing_at t o ≡ false → l.open_write o ≡ none
  vacant_closed o p e = sym (h.writes o p) ∙ rw e

  -- ---- a write accepted
  begun_writes : (o y : ℕ) → o < s.objects → (j : ℕ) → standing_write (begun s t o y) j ≡ updated (standing_write t) o (write y (latest_end s t o)) j
  unfolding opened
  begun_writes o y p j = ⊎_elim here other (same? j o)
    where
      i : o < 32
      i = omega (arith, rs.objects.1)

      here : j ≡ o → standing_write (begun s t o y) j ≡ updated (standing_write t) o (write y (latest_end s t o)) j
      here e =
          rw (
            e,
            eq-eqb o o refl,
            get_or-set_same t.objects.standing o true false (omega (arith, k.objects.standing)),
            get_or-set_same t.objects.pending o y 0 (omega (arith, k.objects.pending)),
            get_or-set_same t.objects.end o (latest_end s t o) 0 (omega (arith, k.objects.end)),
          )

      other : (j ≡ o → ⊥) → standing_write (begun s t o y) j ≡ updated (standing_write t) o (write y (latest_end s t o)) j
      other n =
          rw (
            ne_eqb j o n,
            get_or-set_other t.objects.standing o j true false n,
            get_or-set_other t.objects.pending o j y 0 n,
            get_or-set_other t.objects.end o j (latest_end s t o) 0 n,
          )

  pub begun_booked : (o y : ℕ) → o < s.objects → standing_at t o ≡ false → Booked s (begun s t o y) (book s l (acceptance o y (latest_end s t o)))
  unfolding opened book
  begun_booked o y p v =
      let w = write y (latest_end s t o) in
      let more : count_from (λ (j : ℕ). is_open (updated l.open_write o w j)) 0 s.objects ≡ suc (open_count s l) =
      count_less _ _ o s.objects p (ap is_open (updated_same l.open_write o w)) (ap is_open (vacant_closed o p v)) (λ j n. ap is_open (updated_other l.open_write o j w n)) in
      record {
        values = h.values;
        writes = λ j q.
            begun_writes o y p j
            ∙ ⊎_elim (λ e. rw e (updated_same (standing_write t) o w ∙ sym (updated_same l.open_write o w)))
            (λ n. updated_other (standing_write t) o j w n ∙ h.writes j q ∙ sym (updated_other l.open_write o j w n)) (same? j o);
        tallies = omega (arith, more, h.tallies);
      }

  -- ---- a standing write completed
  pub completed_booked : (o : ℕ) → o < s.objects → standing_at t o ≡ true → Booked s (completed s t o) (book s l (completion o))
  unfolding completed posted book
  completed_booked o p v =
      let i : o < 32 = omega (arith, rs.objects.1) in
      let open_at = standing_open o p v in
      let less : open_count s l ≡ suc (count_from (λ (j : ℕ). is_open (updated l.open_write o none j)) 0 s.objects) =
      count_less _ _ o s.objects p (ap is_open open_at) (ap is_open (updated_same l.open_write o none)) (λ j n. ap is_open (sym (updated_other l.open_write o j none n))) in
      record {
        values = λ j q.
            ⊎_elim (λ e. rw (e, eq-eqb o o refl, get_or-set_same t.objects.value o (pending_at t o) 0 (omega (arith, k.objects.value)), open_at))
            (λ n. rw (ne_eqb j o n, get_or-set_other t.objects.value o j (pending_at t o) 0 n) (h.values j q)) (same? j o);
        writes = λ j q.
            ⊎_elim (λ e. rw (e, eq-eqb o o refl, get_or-set_same t.objects.standing o false false (omega (arith, k.objects.standing))))
            (λ n.
            rw (ne_eqb j o n, get_or-set_other t.objects.standing o j false false n, get_or-set_other t.objects.pending o j 0 0 n, get_or-set_other t.objects.end o j 0 0 n)
            (h.writes j q)) (same? j o);
        tallies = omega (arith, less, h.tallies);
      }

-- ---- the server restarted
pub restarted_booked : (s : Setup) (t : Tables) (l : Ledger) → Booked s t l → Booked s (server_restarted s t) (book s l server_restart)
unfolding server_restarted book
restarted_booked s t l h = record {
  values = h.values;
  writes = λ o p. rw (replicate_at 32 o false);
  tallies = omega (arith, h.tallies, count_none (λ (o : ℕ). is_open none) 0 s.objects (λ o a p. refl));
}

pub fresh_booked : (s : Setup) → Booked s fresh_tables empty_ledger
unfolding fresh_tables
fresh_booked s = record {
  values = λ o p. replicate_at 32 o 0;
  writes = λ o p. rw (replicate_at 32 o false);
  tallies = sym (count_none _ 0 s.objects (λ o a p. refl)) ∙ omega arith;
}
