-- The server's sessions in the words: what code reads that changes nothing else, and a change of nothing else.
use Rattle.std.specs.Prelude.{ℕ, List, ◌≡◌, refl}
use Rattle.std.proofs.Common.{ap, ◌∙◌}
use Rattle.protocol.specs.declared.tables.Sessions.{Sessions}
use Rattle.protocol.specs.declared.tables.Tables.{Tables}
use Rattle.protocol.specs.Tables.{with_sessions}
use Rattle.state_words.specs.View.{tables_of, numbers_of, records_of}

-- the sessions do not depend on the values
abbrev pub sessions_of : List ℕ → Sessions
sessions_of w = (numbers_of w).sessions

-- from the words w to u nothing has changed except the sessions
pub record OnlySessions (w u : List ℕ) : Type 0 where
  pub tables : (x : List ℕ) → tables_of u x ≡ with_sessions (tables_of w x) (sessions_of u)
  pub records : (x : List ℕ) → records_of u x ≡ records_of w x

pub only_start : (w : List ℕ) → OnlySessions w w
unfolding tables_of
only_start w = record { tables = λ x. refl; records = λ x. refl }

pub only_again : (w u a : List ℕ) → OnlySessions w u → OnlySessions u a → OnlySessions w a
only_again w u a e f = record {
  tables = λ x. f.tables x ∙ ap (λ (t : Tables). with_sessions t (sessions_of a)) (e.tables x);
  records = λ x. f.records x ∙ e.records x;
}

-- the whole of the tables, where the sessions are known
pub sessions_become : (w u x : List ℕ) (y : Sessions) → OnlySessions w u → sessions_of u ≡ y → tables_of u x ≡ with_sessions (tables_of w x) y
sessions_become w u x y e f = e.tables x ∙ ap (with_sessions (tables_of w x)) f
