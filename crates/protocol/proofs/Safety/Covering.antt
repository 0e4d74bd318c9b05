-- When a view is covered, or needs no more than a DROPPED leaves: by what it says, by how much covers it, with nothing in it, and by the guard alone.
use Rattle.std.specs.Prelude.{ℕ, ◌≤◌, Bool, true, false, List, ◌≡◌, refl, get_or, Option}
use Rattle.std.proofs.Common.{arith, inl, inr, ⊎_elim, sym, ◌∙◌}
use Rattle.laws.specs.Choice.{true_or_false, not_both}
use Rattle.laws.specs.Updated.{updated_other, updated_agree}
use Rattle.protocol.specs.declared.records.Copy.{Copy}
use Rattle.protocol.specs.declared.records.Request.{Request}
use Rattle.protocol.specs.declared.setup.Setup.{Setup}
use Rattle.protocol.specs.Setup.{volume_of}
use Rattle.protocol.specs.Tables.{by_object}
use Rattle.protocol.specs.Safety.View.{Stands, copy_at, left, held_of, until_of, View, view_of, view_granted, Held, Unheld, Claimed, Covered, ViewOk, Remains}
use Rattle.protocol.specs.Safety.Invariant.{GrantOk}
use Rattle.protocol.proofs.Safety.Stores.{same_version_law, same_expiry}
use Rattle.protocol.proofs.Safety.Tools.{left_grows}
use Rattle.protocol.specs.Safety.Covering.{Less, Fewer, Empty}

-- ---- a view that says the same, perhaps without some copies

module _ {s : Setup} {clock v : ℕ} {view view' : View} (less : Less s clock v view view') where
  held_less : (o : ℕ) → Held s clock v view' o → Held s clock v view o
  held_less o h =
      let q = less.copies o h in
      record { exists = h.exists; inside = h.inside; copy = λ e. h.copy (q.0 ∙ e); alive = rw q.1 at h.alive }

  pub covered_less : {d epoch guard session : ℕ} {excuse : ℕ → Bool} {version lease : List ℕ}
      → Covered s clock d v epoch guard session excuse version lease view → Covered s clock d v epoch guard session excuse version lease view'
  covered_less {epoch} {excuse} c = record {
    current = λ a. rw less.expiry (c.current (sym less.known ∙ a));
    older = λ a. rw less.expiry (c.older (rw less.known at a));
    holds = λ o h a.
        let q = less.copies o h in
        let r = c.holds o (held_less o h) (claimed o a) in
        (q.0 ∙ r.0, λ b. rw q.1 (r.1 (sym less.known ∙ b)));
  }
    where
      claimed : (o : ℕ) → Claimed clock epoch excuse view' o → Claimed clock epoch excuse view o
      claimed o a = ⊎_elim (λ b. inl (rw less.expiry at b)) (λ b. inr (sym less.known ∙ b.0, b.1)) a

  pub remains_less : {d : ℕ} {version lease : List ℕ} → Remains s clock d v version lease view → Remains s clock d v version lease view'
  remains_less c = record {
    volume = less.expiry ∙ c.volume;
    objects = λ o h. let q = less.copies o h in let r = c.objects o (held_less o h) in (q.0 ∙ r.0, rw q.1 r.1);
  }

  pub unheld_less : {m : ℕ} → Unheld s clock v m view → Unheld s clock v m view'
  unheld_less c = record { none = λ o b h. c.none o b (held_less o h) }

module _ {s : Setup} {clock d v : ℕ} {copies copies' : List Copy} (fewer : Fewer s d v copies copies') where
  pub view_less : {known expiry known' expiry' : ℕ} → known' ≡ known → expiry' ≡ expiry
      → Less s clock v (view_of s copies d known expiry) (view_of s copies' d known' expiry')
  view_less p q = record {
    known = p;
    expiry = q;
    copies = λ o h. ⊎_elim (λ a. absurd (h.copy a)) (λ a. (same_version_law a, same_expiry a)) (fewer.each o h.exists h.inside);
  }

  pub granted_less : (o x e ver y : ℕ) → Less s clock v (view_granted s copies d o x e ver y) (view_granted s copies' d o x e ver y)
  granted_less o x e ver y = record {
    known = refl;
    expiry = refl;
    copies = λ i h. (updated_agree (held_of s copies' d) (held_of s copies d) o i ver (λ q. same_version_law (still i h q)), updated_agree (until_of s copies' d) (until_of s copies d) o i y (λ q. same_expiry (still i h q)));
  }
    where
      still : (i : ℕ) → Held s clock v (view_granted s copies' d o x e ver y) i → (i ≡ o → ⊥) → copy_at s copies' d i ≡ copy_at s copies d i
      still i h q = ⊎_elim (λ p. absurd (h.copy (updated_other (held_of s copies' d) o i ver q ∙ p))) (λ p. p) (fewer.each i h.exists h.inside)

-- ---- the same view, covered by as much or more

pub covered_by : {s : Setup} {clock d v epoch guard session session' : ℕ} {excuse excuse' : ℕ → Bool} {version lease lease' : List ℕ} {view : View}
    → Covered s clock d v epoch guard session excuse version lease view → session ≤ session'
    → ((o : ℕ) → Held s clock v view o → excuse o ≡ true → excuse' o ≡ true)
    → ((o : ℕ) → Held s clock v view o → get_or lease (by_object d o) 0 ≤ get_or lease' (by_object d o) 0)
    → Covered s clock d v epoch guard session' excuse' version lease' view
covered_by {s} {clock} {v} {excuse} {excuse'} {view} c a more longer = record {
  current = λ e. let b = c.current e in omega arith;
  older = c.older;
  holds = λ o h l.
      let r = c.holds o h (⊎_elim inl (λ b. inr (b.0, trusted o h b.1)) l) in
      (r.0, λ e. let b = r.1 e in let p = longer o h in omega arith);
}
  where
    trusted : (o : ℕ) → Held s clock v view o → excuse' o ≡ false → excuse o ≡ false
    trusted o h e = ⊎_elim (λ b. not_both (more o h b) e) (λ b. b) (true_or_false (excuse o))

pub remains_by : {s : Setup} {clock d v : ℕ} {version lease lease' : List ℕ} {view : View} → Remains s clock d v version lease view
    → ((o : ℕ) → Held s clock v view o → get_or lease (by_object d o) 0 ≤ get_or lease' (by_object d o) 0) → Remains s clock d v version lease' view
remains_by c longer = record {
  volume = c.volume;
  objects = λ o h. let r = c.objects o h in let b = left_grows (longer o h) in let a = r.1 in (r.0, omega arith);
}

-- a view that needs no more than what is left of the leases
pub covered_left : {s : Setup} {clock d v epoch guard session : ℕ} {excuse : ℕ → Bool} {version lease lease' : List ℕ} {view : View} → Remains s clock d v version lease view
    → ((o : ℕ) → Held s clock v view o → get_or lease' (by_object d o) 0 ≡ left (get_or lease (by_object d o) 0)) → Covered s clock d v epoch guard session excuse version lease' view
covered_left c leaves = record {
  current = λ a. omega (arith, c.volume);
  older = λ a. omega (arith, c.volume);
  holds = λ o h a. let r = c.objects o h in (r.0, λ e. rw (leaves o h) r.1);
}

-- a GRANT's clause where nothing changes but what covers the view
pub grant_covered : {s : Setup} {clocks clocks' : ℕ → ℕ} {epoch guard seen session session' : List ℕ} {excuse excuse' : ℕ → ℕ → ℕ → Bool} {offer batch value version lease lease' : List ℕ}
    {copies : List Copy} {requests : List Request} {d o n x e ver y : ℕ} {p : Option ℕ} → GrantOk s clocks epoch guard seen session excuse offer batch value version lease copies requests d o n x e ver y p
    → (Stands requests d n → ViewOk s clocks' epoch guard session' excuse' version lease' d (volume_of s o) (view_granted s copies d o x e ver y))
    → GrantOk s clocks' epoch guard seen session' excuse' offer batch value version lease' copies requests d o n x e ver y p
grant_covered c covered = record {
  exists = c.exists;
  header = c.header;
  reached = c.reached;
  payload = c.payload;
  object = c.object;
  unoffered = c.unoffered;
  held = c.held;
  covered = covered;
}

-- ---- nothing known, nothing held

module _ {s : Setup} {clock d v : ℕ} {version lease : List ℕ} {view : View} (empty : Empty s clock v view) where
  pub covered_empty : {epoch guard session : ℕ} {excuse : ℕ → Bool} → Covered s clock d v epoch guard session excuse version lease view
  covered_empty = record {
    current = λ a. omega (arith, empty.volume);
    older = λ a. omega (arith, empty.volume);
    holds = λ o h a. absurd (empty.objects o h);
  }

  pub remains_empty : Remains s clock d v version lease view
  remains_empty = record { volume = empty.volume; objects = λ o h. absurd (empty.objects o h) }

-- ---- a view of an older epoch, which no server lease covers

pub covered_older : {s : Setup} {clock d v epoch guard session session' : ℕ} {excuse excuse' : ℕ → Bool} {version lease lease' : List ℕ} {view : View} → (view.known ≡ epoch → ⊥)
    → Covered s clock d v epoch guard session excuse version lease view → Covered s clock d v epoch guard session' excuse' version lease' view
covered_older old c = record {
  current = λ a. absurd (old a);
  older = c.older;
  holds = λ o h a. ⊎_elim (λ b. ((c.holds o h (inl b)).0, λ e. absurd (old e))) (λ b. absurd (old b.0)) a;
}
