-- Storing what a client knows of a volume in the words, and receiving a GRANT with given terms.
use Rattle.std.specs.Prelude.{ℕ, ◌+◌, List, set}
use Rattle.protocol.specs.declared.records.Copy.{Copy}
use Rattle.protocol.specs.declared.records.Request.{Request}
use Rattle.protocol.specs.declared.setup.Setup.{Setup}
use Rattle.protocol.specs.declared.tables.Tables.{Tables}
use Rattle.protocol.specs.Decide.{Received, grant_received}
use Rattle.state_words.specs.Fields.{at, VIEW_EPOCH, VIEW_EXPIRY}
use Rattle.client_receive.specs.declared.receive.Terms.{Terms}

abbrev pub view_stored : List ℕ → ℕ → ℕ → ℕ → List ℕ
view_stored words place epoch expiry = set (set words (at VIEW_EPOCH + place) epoch) (at VIEW_EXPIRY + place) expiry

abbrev pub grant_heard : Setup → Tables → Copy → Request → ℕ → ℕ → Terms → Received
grant_heard s t c r d o g = grant_received s t c r d o g.number g.volume_expiry g.epoch g.version g.object_expiry g.payload
