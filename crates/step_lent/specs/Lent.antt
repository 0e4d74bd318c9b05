-- The world that the rules are about, made of what a step is lent.
use Rattle.std.specs.Prelude.{ℕ, List}
use Rattle.protocol.specs.declared.records.Copy.{Copy}
use Rattle.protocol.specs.declared.records.Request.{Request}
use Rattle.protocol.specs.World.{World}
use Rattle.state_words.specs.View.{tables_of}

abbrev pub world : List ℕ → List ℕ → List Copy → List Request → World
world words values l k = record { tables = tables_of words values; copies = l; requests = k }
