-- Receiving a message, split by side: the server handles RENEW, ACK, DROPPED and CLEARED, the client GRANT, INVALIDATE, OFFER and BATCH.
-- Letters as in `Decide`: s setup, t tables, c the copy, r the request, d client, o object, v volume, n number, e epoch, w version, x and y a GRANT's
-- expiries, p its payload, m a set.
use Rattle.std.specs.Prelude.{ℕ}
use Rattle.protocol.specs.declared.message.Kind.{Kind}
use Rattle.protocol.specs.declared.message.Kind.TheVariants.{Renew, Grant, Invalidate, Ack, Offer, Dropped, Batch, Cleared}
use Rattle.protocol.specs.declared.records.Copy.{Copy}
use Rattle.protocol.specs.declared.records.Request.{Request}
use Rattle.protocol.specs.declared.setup.Setup.{Setup}
use Rattle.protocol.specs.declared.tables.Tables.{Tables}
use Rattle.protocol.specs.Writes.{Counted, settled}
use Rattle.protocol.specs.Server.{renewed, ack_staged, drop_staged, notes_cleared}
use Rattle.protocol.specs.Decide.{Received, kept, uncounted, by_client, grant_received, invalidate_received, offer_received, batch_received}

unfoldable pub served : Setup → Tables → ℕ → Kind → Counted
served s t d (Renew o n e w) = uncounted (renewed s t d o n e w)
served s t d (Ack o e w) = settled s (ack_staged s t d o e w)
served s t d (Dropped v n e) = settled s (drop_staged s t d v n e)
served s t d (Cleared v n e m) = uncounted (notes_cleared s t d v n e m)
served s t d (Grant o n x e w y p) = uncounted t
served s t d (Invalidate o e w) = uncounted t
served s t d (Offer v n e) = uncounted t
served s t d (Batch v n e m) = uncounted t

unfoldable pub heard : Setup → Tables → Copy → Request → ℕ → Kind → Received
heard s t c r d (Grant o n x e w y p) = grant_received s t c r d o n x e w y p
heard s t c r d (Invalidate o e w) = invalidate_received t r d o e w
heard s t c r d (Offer v n e) = offer_received t r d v n e
heard s t c r d (Batch v n e m) = batch_received t r d v n e m
heard s t c r d (Renew o n e w) = by_client kept t
heard s t c r d (Ack o e w) = by_client kept t
heard s t c r d (Dropped v n e) = by_client kept t
heard s t c r d (Cleared v n e m) = by_client kept t
