-- A client asks: a new number stands, which no message under way has, and the RENEW says what the client knows and holds.
use Rattle.std.specs.Prelude.{ℕ, ◌<◌, ◌≡◌, refl, length, set}
use Rattle.std.proofs.Common.{arith, ap}
use Rattle.protocol.specs.declared.records.Request.{Request}
use Rattle.protocol.specs.declared.setup.Setup.{Setup}
use Rattle.protocol.specs.Setup.{volume_of}
use Rattle.protocol.specs.Server.{sent}
use Rattle.protocol.specs.Client.{numbered, renewal}
use Rattle.protocol.specs.World.{World}
use Rattle.protocol.specs.Ranges.{Ranges}
use Rattle.protocol.specs.Soundness.Shape.{WorldShape}
use Rattle.protocol.specs.Safety.View.{copy_at, request_at}
use Rattle.protocol.specs.Safety.Invariant.{Inv}
use Rattle.protocol.proofs.Safety.Sending.{send_single}
use Rattle.protocol.specs.Safety.Requests.{requesting}
use Rattle.protocol.proofs.Safety.Requests.{has_record, request_taken, same_record}

module _ (s : Setup) (range : Ranges s) (w : World) (inv : Inv s w) (shape : WorldShape s w) (d o : ℕ) (hd : d < s.clients) (ho : o < s.objects) where
  abbrev request : Request
  request = request_at w.requests d

  here : d < length w.requests
  here = has_record shape hd

  this : request_at (set w.requests d (numbered request o)) d ≡ numbered request o
  this = same_record w.requests d here (numbered request o)

  pub asks : Inv s (record {
    tables = sent w.tables (renewal s w.tables (copy_at s w.copies d o) request d o);
    copies = w.copies;
    requests = set w.requests d (numbered request o);
  })
  asks =
      send_single s (requesting w (set w.requests d (numbered request o))) (request_taken s w inv d here o) (renewal s w.tables (copy_at s w.copies d o) request d o)
      shape.tables.queue.items
      (record {
        client = hd;
        kind = record {
          exists = ho;
          reached = inv.epochs d (volume_of s o) hd (range.within o ho);
          taken = rw this (omega arith);
          object = λ a. ap (λ (r : Request). r.object) this;
          knows = λ a. refl;
          held = λ a. refl;
        };
      })
      (λ i a. a) (λ k i b. b)
