-- The request records change: a number is taken, or the standing request ends. No message under way gets to answer a request that it did not answer before.
use Rattle.std.specs.Prelude.{ℕ, ◌<◌, ◌≤◌, List, ◌≡◌}
use Rattle.protocol.specs.declared.records.Request.{Request}
use Rattle.protocol.specs.World.{World}
use Rattle.protocol.specs.Safety.View.{Stands, request_at}

abbrev pub requesting : World → List Request → World
requesting w requests = record { tables = w.tables; copies = w.copies; requests = requests }

-- numbers only grow, and of the numbers taken before none stands that did not
pub record Moves (before after : List Request) : Type 0 where
  pub next : (d : ℕ) → (request_at before d).next ≤ (request_at after d).next
  pub stands : (d n : ℕ) → n < (request_at before d).next → Stands after d n → Stands before d n
  pub object : (d n : ℕ) → n < (request_at before d).next → Stands after d n → (request_at after d).object ≡ (request_at before d).object
