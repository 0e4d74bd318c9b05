-- One object's fields replaced in a list: what stands there afterwards, and that all else stays.
use Rattle.std.specs.Prelude.{ℕ, ◌<◌, List, ◌≡◌, get_or}
use Rattle.protocol.specs.declared.setup.Setup.{Setup}
use Rattle.protocol.specs.declared.tables.Tables.{Tables}
use Rattle.protocol.specs.Tables.{by_object}
use Rattle.protocol.specs.World.{World}

-- the tables replaced, the clients' records as they are
abbrev pub with_tables : World → Tables → World
with_tables w t = record { tables = t; copies = w.copies; requests = w.requests }

-- l' is l with x at o; y is what a place outside reads as
pub record Replaced {A : Type 0} (o : ℕ) (x y : A) (l l' : List A) : Type 0 where
  pub here : get_or l' o y ≡ x
  pub other : (k : ℕ) → (k ≡ o → ⊥) → get_or l' k y ≡ get_or l k y

-- the same of a list per client and object: x d is what each client has at o
pub record ReplacedFor {A : Type 0} (s : Setup) (o : ℕ) (x : ℕ → A) (y : A) (l l' : List A) : Type 0 where
  pub here : (d : ℕ) → d < s.clients → get_or l' (by_object d o) y ≡ x d
  pub other : (d k : ℕ) → k < s.objects → (k ≡ o → ⊥) → get_or l' (by_object d k) y ≡ get_or l (by_object d k) y
