-- A client receives an INVALIDATE: no request for the object stands any more, the copy is erased, and the ACK says so.
use Rattle.std.specs.Prelude.{ℕ, ◌+◌, ◌*◌, ◌<◌, List, ◌≡◌, refl, length, set}
use Rattle.std.proofs.Common.{inl, inr, ⊎_elim, sym, ◌∙◌}
use Rattle.protocol.specs.declared.message.Kind.{Kind}
use Rattle.protocol.specs.declared.message.Kind.TheVariants.{Invalidate, Ack}
use Rattle.protocol.specs.declared.records.Request.{Request}
use Rattle.protocol.specs.declared.setup.Setup.{Setup}
use Rattle.protocol.specs.Messages.{message}
use Rattle.protocol.specs.Tables.{no_copy}
use Rattle.protocol.specs.Server.{sent}
use Rattle.protocol.specs.Client.{turned, forgotten}
use Rattle.protocol.specs.World.{World}
use Rattle.protocol.specs.Soundness.Shape.{WorldShape}
use Rattle.protocol.specs.Safety.View.{Stands, copy_at, request_at}
use Rattle.protocol.specs.Safety.Invariant.{Inv, KindOk, Bringing}
use Rattle.protocol.specs.Safety.Stores.{After}
use Rattle.protocol.proofs.Safety.Stores.{at_place, copy_set, same_version_law}
use Rattle.protocol.proofs.Safety.Sending.{bringing_case, not_bringing, send}
use Rattle.protocol.specs.Safety.Requests.{requesting}
use Rattle.protocol.proofs.Safety.Requests.{has_record, request_forgotten, forgotten_gone}
use Rattle.protocol.proofs.Safety.Erasing.{copies_erased}

-- ---- a copy is erased for which no request stands
copy_erased : (s : Setup) (w : World) → Inv s w → length w.copies ≡ s.clients * s.objects → (d o : ℕ) → d < s.clients → o < s.objects
    → ((n : ℕ) → Stands w.requests d n → (request_at w.requests d).object ≡ o → ⊥)
    → Inv s (record { tables = w.tables; copies = set w.copies (d * s.objects + o) no_copy; requests = w.requests })
copy_erased s w inv full d o hd ho idle =
    copies_erased s w inv _ (λ k i h. ⊎_elim (λ a. inl (same_version_law a.2)) (λ a. inr a.1) (at_copy k i h))
    (λ k n i a b h. ⊎_elim (λ q. absurd (idle n (rw q.0 at a) (rw (q.0, q.1) at b))) (λ q. same_version_law q.1) (at_copy k i h))
  where
    at_copy : (k i : ℕ) → i < s.objects → After d o k i (copy_at s (set w.copies (d * s.objects + o) no_copy) k i) no_copy (copy_at s w.copies k i)
    at_copy k i h = copy_set s hd ho w.copies no_copy full k i h

-- ---- INVALIDATE of client d
module _ (s : Setup) (w : World) (inv : Inv s w) (shape : WorldShape s w) (d o e ver : ℕ) (hd : d < s.clients) (ok : KindOk s w d (Invalidate o e ver)) where
  here : d < length w.requests
  here = has_record shape hd

  abbrev requests : List Request
  requests = set w.requests d (turned (request_at w.requests d) (forgotten (request_at w.requests d) o))

  abbrev after : World
  after = record { tables = w.tables; copies = set w.copies (d * s.objects + o) no_copy; requests = requests }

  erased : Inv s after
  erased =
      copy_erased s (requesting w requests) (request_forgotten s w inv d here hd o) shape.copies d o hd ok.exists
      (λ n a b. forgotten_gone w.requests d here o n a b)

  -- no GRANT can bring the client the object
  unasked : (k i : ℕ) (g : Kind) → d ≡ k → o ≡ i → KindOk s after k g → Bringing requests k i g → ⊥
  unasked k i g p q c b =
      bringing_case {o = i} (λ (h : Kind). KindOk s after k h → ⊥) (λ n x f u y l a h. forgotten_gone w.requests d here o n (rw (← p) at a) (rw (← p) at (h.object a) ∙ sym q)) g b c

  pub invalidate_taken : Inv s (record {
    tables = sent w.tables (message d (Ack o e ver));
    copies = set w.copies (d * s.objects + o) no_copy;
    requests = requests;
  })
  invalidate_taken =
      send s after erased (message d (Ack o e ver)) shape.tables.queue.items
      (record {
        client = hd;
        kind = record { invalidate = ok; erased = λ a. same_version_law (at_place (copy_set s hd ok.exists w.copies no_copy shape.copies d o ok.exists) refl refl) };
      })
      (λ g z. (record { acked = λ i p a b. unasked g.client i g.kind p a.0 (erased.messages g z).kind b }, not_bringing (λ k i b. b)))
