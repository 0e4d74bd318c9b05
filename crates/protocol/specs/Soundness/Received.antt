-- The bounds of question 1 are kept by every message received and by the restarts.
-- h says that tables, or a part of them, are within the bounds; d, v and o are client, volume and object, p and q say that these exist; n, e, w, x, y and a
-- are a message's number, epoch, version, volume expiry, object expiry and payload; c and r are the copy and the request.
use Rattle.protocol.specs.declared.records.Copy.{Copy}
use Rattle.protocol.specs.declared.records.Request.{Request}
use Rattle.protocol.specs.declared.setup.Setup.{Setup}
use Rattle.protocol.specs.declared.step.Change.{Change}
use Rattle.protocol.specs.declared.tables.Tables.{Tables}
use Rattle.protocol.specs.Client.{turned, changed}
use Rattle.protocol.specs.Decide.{Received}
use Rattle.protocol.specs.Soundness.Bounds.{Bounded, CopyBounded, RequestBounded}

-- ---- a client's receipts
-- what a receipt or a step leaves: tables t within the bounds, and a change g that keeps the bounds of the copy c and the request r
pub record Leaves (s : Setup) (c : Copy) (r : Request) (t : Tables) (g : Change) : Type 0 where
  pub tables : Bounded s t
  pub copy : CopyBounded c → CopyBounded (changed c g.copy)
  pub request : RequestBounded s r → RequestBounded s (turned r g.request)

abbrev pub Receipt : Setup → Copy → Request → Received → Type 0
Receipt s c r g = Leaves s c r g.counted.tables g.change
