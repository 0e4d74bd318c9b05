-- A client takes a GRANT: what it then knows is covered, as the GRANT was while under way.
use Rattle.std.specs.Prelude.{ℕ, ◌+◌, ◌*◌, ◌<◌, List, ◌≡◌, refl, set, Option, None, Some}
use Rattle.std.proofs.Common.{⊎_elim, sym, ap, ◌∙◌}
use Rattle.laws.specs.Updated.{updated_other, updated_same}
use Rattle.protocol.specs.declared.message.Kind.TheVariants.{Grant, Ack}
use Rattle.protocol.specs.declared.records.Copy.{Copy}
use Rattle.protocol.specs.declared.setup.Setup.{Setup}
use Rattle.protocol.specs.Setup.{volume_of}
use Rattle.protocol.specs.Tables.{value_at, version_at, with_views}
use Rattle.protocol.specs.Client.{ended, viewed, filled, payload_or}
use Rattle.protocol.specs.World.{World}
use Rattle.protocol.specs.Ranges.{Ranges}
use Rattle.protocol.specs.Soundness.Shape.{WorldShape}
use Rattle.protocol.specs.Safety.View.{Stands, copy_at, request_at, held_of, until_of, view_of, view_granted}
use Rattle.protocol.specs.Safety.Invariant.{Inv, Sent, from, NamesHeld, PayloadOk, KindOk, clocks_of, AcknowledgesIn}
use Rattle.protocol.specs.Safety.Stores.{After}
use Rattle.protocol.proofs.Safety.Stores.{off_place, copy_set, same_version_law, same_expiry}
use Rattle.protocol.specs.Safety.Covering.{Less}
use Rattle.protocol.proofs.Safety.Covering.{covered_less}
use Rattle.protocol.proofs.Safety.Taking.{Inside, taken_inside}

-- ---- GRANT of client d, taken
module _ (s : Setup) (range : Ranges s) (w : World) (inv : Inv s w) (shape : WorldShape s w) (d o n x e ver y : ℕ) (p : Option ℕ) (hd : d < s.clients)
    (ok : KindOk s w d (Grant o n x e ver y p)) (stands : Stands w.requests d n)
    (alone : (f u : ℕ) → Sent w.tables.queue (from d (Ack o f u)) → AcknowledgesIn s w.tables o f u → ⊥) where
  abbrev copy : Copy
  copy = copy_at s w.copies d o

  abbrev new : Copy
  new = filled copy ver y p

  abbrev copies : List Copy
  copies = set w.copies (d * s.objects + o) new

  ho : o < s.objects
  ho = ok.exists

  at_copy : (k i : ℕ) → i < s.objects → After d o k i (copy_at s copies k i) new (copy_at s w.copies k i)
  at_copy k i h = copy_set s hd ho w.copies new shape.copies k i h

  -- the value that is stored is the current one, if the version is
  stored : (q : Option ℕ) → PayloadOk w.tables.objects.value w.tables.objects.version o ver q → NamesHeld copy.version ver q
      → ver ≡ version_at w.tables o → payload_or copy.value q ≡ value_at w.tables o
  stored None a b c = inv.versions.values d o hd ho (sym b.0 ∙ c)
  stored (Some z) a b c = a c

  -- the client knows what the GRANT said
  said : Less s (clocks_of w.tables d) (volume_of s o) (view_granted s w.copies d o x e ver y) (view_of s copies d e x)
  said = record {
    known = refl;
    expiry = refl;
    copies = λ i h. ⊎_elim
        (λ a. (same_version_law a.2 ∙ rw a.1 (sym (updated_same (held_of s w.copies d) o ver)), same_expiry a.2 ∙ rw a.1 (sym (updated_same (until_of s w.copies d) o y))))
        (λ a. (same_version_law a.1 ∙ sym (updated_other (held_of s w.copies d) o i ver (a.0 refl)), same_expiry a.1 ∙ sym (updated_other (until_of s w.copies d) o i y (a.0 refl))))
        (at_copy d i h.exists);
  }

  inside : Inside s range w inv shape d hd (volume_of s o) e x (range.within o ho) copies (λ k i h ne. off_place (at_copy k i h) (λ a b. ne a (ap (volume_of s) b)))
  inside = record {
    epoch = ok.header.reached;
    reached = λ i h q. ⊎_elim (λ a. rw (a.2, a.1) ok.reached) (λ a. rw a.1 (inv.versions.reached d i hd h)) (at_copy d i h);
    values = λ i h q. ⊎_elim (λ a. rw (a.2, a.1) (stored p ok.payload (ok.held stands))) (λ a. rw a.1 (inv.versions.values d i hd h)) (at_copy d i h);
    view = covered_less said (ok.covered stands);
    erased = λ i f u z q a. ⊎_elim (λ b. absurd (alone f u (rw b.1 at z) (rw b.1 at a))) (λ b. same_version_law b.1 ∙ (inv.messages _ z).kind.erased a)
        (at_copy d i (inv.messages _ z).kind.invalidate.exists);
    -- no offer and no batch stands
    remains = λ n' f z a b. absurd (a.nonzero (sym a.same ∙ (ok.unoffered stands b).0));
    unheld = λ n' f m z a b. absurd (a.nonzero (sym a.same ∙ (ok.unoffered stands b).1));
  }

  pub grant_taken : Inv s (record {
    tables = with_views w.tables (viewed w.tables.views d (volume_of s o) e x);
    copies = copies;
    requests = set w.requests d (ended (request_at w.requests d));
  })
  grant_taken = taken_inside s range w inv shape d hd (volume_of s o) e x (range.within o ho) copies (λ k i h ne. off_place (at_copy k i h) (λ a b. ne a (ap (volume_of s) b))) inside
