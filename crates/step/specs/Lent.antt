-- The machine that the rules are about, made of what a step is lent.
use Rattle.std.specs.Prelude.{ℕ, List, ◌≡◌}
use Rattle.protocol.specs.declared.records.Copy.{Copy}
use Rattle.protocol.specs.declared.records.Request.{Request}
use Rattle.protocol.specs.declared.setup.Setup.{Setup}
use Rattle.protocol.specs.Saved.{Machine}
use Rattle.state_words.specs.Saved.{saved_of}
use Rattle.step_lent.specs.Lent.{world}

abbrev pub machine : Setup → List ℕ → List ℕ → List Copy → List Request → List (List ℕ) → List (List ℕ) → Machine
machine s words values copies requests saved saved_values = record { now = world words values copies requests; saved = saved_of s saved saved_values }

-- "every lent table and buffer is unchanged": what a step is lent, and the same after it
pub record Unchanged (w x : List ℕ) (l : List Copy) (k : List Request) (ws xs : List (List ℕ))
    (v u : List ℕ) (m : List Copy) (j : List Request) (vs us : List (List ℕ)) : Type 0 where
  pub words : v ≡ w
  pub values : u ≡ x
  pub copies : m ≡ l
  pub requests : j ≡ k
  pub saved : vs ≡ ws
  pub saved_values : us ≡ xs
