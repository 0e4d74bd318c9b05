-- The invariant holds of fresh tables: nothing is known, held, asked or under way.
use Rattle.std.specs.Prelude.{ℕ, ◌+◌, ◌*◌, ◌<◌, ◌≡◌, refl, get_or, replicate}
use Rattle.std.proofs.Common.{arith, ◌∙◌}
use Rattle.std.proofs.Math.Path.{sym}
use Rattle.std.proofs.lemmas.List.{get_or-replicate}
use Rattle.laws.specs.Choice.{not_both}
use Rattle.protocol.specs.declared.message.Message.{Message}
use Rattle.protocol.specs.declared.records.Copy.{Copy}
use Rattle.protocol.specs.declared.records.Request.{Request}
use Rattle.protocol.specs.declared.setup.Setup.{Setup}
use Rattle.protocol.specs.Messages.{empty_queue}
use Rattle.protocol.specs.Tables.{no_copy, no_request, fresh_request, fresh_tables}
use Rattle.protocol.specs.World.{fresh_world}
use Rattle.protocol.specs.Safety.View.{copy_at, request_at}
use Rattle.protocol.specs.Safety.Invariant.{Inv, Sent}
use Rattle.protocol.proofs.Safety.Stores.{same_version_law, row_below, nothing_stands, object_fits, volume_fits_law, zero_holder, zero_session}
use Rattle.protocol.proofs.Safety.Covering.{covered_empty}
use Rattle.protocol.specs.Ranges.{Ranges}

module _ (s : Setup) (range : Ranges s) where
  all_same : (n i x : ℕ) → i < n → ◌≡◌ {A = ℕ} (get_or (replicate n x) i 0) x
  all_same n i x h = get_or-replicate {A = ℕ} n i x 0 h

  no_copy_law : (d o : ℕ) → d < s.clients → o < s.objects → copy_at s (fresh_world s).copies d o ≡ no_copy
  no_copy_law d o hd ho = get_or-replicate {A = Copy} (s.clients * s.objects) (d * s.objects + o) no_copy no_copy (row_below s.objects d s.clients o hd ho)

  no_version : (d o : ℕ) → d < s.clients → o < s.objects → (copy_at s (fresh_world s).copies d o).version ≡ 0
  no_version d o hd ho = same_version_law (no_copy_law d o hd ho)

  no_request_law : (d : ℕ) → d < s.clients → request_at (fresh_world s).requests d ≡ fresh_request
  no_request_law d hd = get_or-replicate {A = Request} s.clients d fresh_request no_request hd

  none_sent : {A : Type 0} (m : Message) → Sent empty_queue m → A
  none_sent m z = let b = z.below in absurd (omega arith)

  pub fresh_inv : Inv s (fresh_world s)
  unfolding fresh_tables
  fresh_inv = record {
    bounds = record {
      guards = λ v h. rw (all_same 8 v 0 (volume_fits_law range h)) (omega arith);
      volumes = λ v h. rw (all_same 8 v 0 (volume_fits_law range h)) (omega arith);
      sessions = λ d v hd hv. rw (zero_session range d v hd hv) (omega arith);
      objects = λ o h. rw (all_same 32 o 0 (object_fits range h)) (omega arith);
      leases = λ d o hd ho. rw (zero_holder range d o hd ho) (omega arith);
    };
    epochs = λ d v hd hv. rw (zero_session range d v hd hv) (omega arith);
    numbers = record {
      last = λ d h e. not_both (rw (no_request_law d h) at e) refl;
      past = λ d h. let a = range.clients.1 in rw (all_same 16 d 0 (omega arith), no_request_law d h) (omega arith);
    };
    versions = record {
      positive = λ o h. rw (all_same 32 o 1 (object_fits range h)) (omega arith);
      reached = λ d o hd ho. rw (no_version d o hd ho) (omega arith);
      values = λ d o hd ho e. let r = sym (no_version d o hd ho) ∙ e ∙ all_same 32 o 1 (object_fits range ho) in absurd (omega arith);
    };
    offers = λ d v hd hv ne. absurd (ne (zero_session range d v hd hv));
    batches = λ d v hd hv ne. absurd (ne (zero_session range d v hd hv));
    writes = record { guards = λ o h a. nothing_stands range o h a; waits = λ d o hd ho a b. nothing_stands range o ho a; others = λ d o hd ho a b. nothing_stands range o ho a };
    views = λ d v hd hv. covered_empty (record { volume = zero_session range d v hd hv; objects = λ o a. a.copy (no_version d o hd a.exists) });
    messages = λ m z. none_sent m z;
    pairs = λ m g z. none_sent m z;
  }
