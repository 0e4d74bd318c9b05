-- Rules as functions of a part of the state that they do not read. The part is the message list, at whose end a rule puts what it sends, or what the clients
-- know, which stays as it is. Everything else that a rule leaves is the same whatever the part is.
-- Letters: A what a rule leaves, X the part, put how it is put into what is left, adds what becomes of it when messages are sent, f and g rules as functions
-- of the part that they find; s setup, t tables, c what a rule counted, o object, q a message list.
use Prim.Native.Nat.{ℕ, ◌≤◌}
use Rattle.std.specs.Prelude.{Bool, List, ◌≡◌, length}
use Rattle.protocol.specs.declared.message.Message.{Message}
use Rattle.protocol.specs.declared.setup.Setup.{Setup}
use Rattle.protocol.specs.declared.tables.Tables.{Tables}
use Rattle.protocol.specs.Writes.{Counted, completed}

-- all but the part, and what is sent
pub record Frames {A X : Type 0} (put : A → X → A) (adds : X → List Message → X) (f : X → A) : Type 0 where
  pub rest : A
  pub out : List Message
  pub few : length out ≤ 16
  pub same : (x : X) → f x ≡ put rest (adds x out)

-- ---- completing writes
abbrev pub recounted : {X : Type 0} → (Tables → X → Tables) → Counted → X → Counted
recounted put c x = record { count = c.count; tables = put c.tables x }

-- a part that neither the test nor the completing of a write reads
pub record Unread {X : Type 0} (put : Tables → X → Tables) (s : Setup) (test : Tables → ℕ → Bool) : Type 0 where
  pub tested : (t : Tables) (x : X) (o : ℕ) → test (put t x) o ≡ test t o
  pub completes : (t : Tables) (x : X) (o : ℕ) → completed s (put t x) o ≡ put (completed s t o) x
