-- Sessions without notes, where nothing ages.
use Rattle.std.specs.Prelude.{ℕ, ◌*◌, ◌<◌, ◌≤◌, Bool, true, ◌≡◌, eqb, get_or}
use Rattle.std.proofs.Common.{arith, ◌∙◌}
use Rattle.std.proofs.Math.Path.{refl}
use Rattle.laws.specs.Loop.{all_from, all_each, fold_keeps_in}
use Rattle.protocol.specs.declared.setup.Setup.{Setup}
use Rattle.protocol.specs.declared.tables.Sessions.{Sessions}
use Rattle.protocol.specs.Tables.{by_volume}
use Rattle.protocol.specs.Writes.{age_at, aged_in, aged}

-- whether the notes at place i are empty
abbrev pub none_at : Sessions → ℕ → Bool
none_at x i = eqb (get_or x.notes i 0) 0

module _ (s : Setup) (clock : ℕ) (x : Sessions) (h : s.volumes ≤ 8) (e : all_from (none_at x) 0 (s.clients * 8) ≡ true) where
  none_ages_here : (d v : ℕ) → d < s.clients → v < s.volumes → x ≡ age_at s clock d x v
  none_ages_here d v i j = rw (all_each (none_at x) (s.clients * 8) e (by_volume d v) (omega arith))

  none_ages_in : (d : ℕ) → d < s.clients → x ≡ aged_in s clock x d
  unfolding aged_in
  none_ages_in d i =
      fold_keeps_in (λ (y : Sessions). x ≡ y) (age_at s clock d) s.volumes (λ y v j f. none_ages_here d v i j ∙ rw f) x 0 s.volumes (omega arith) refl

  -- what a clock step leaves of the sessions
  pub none_age : x ≡ aged s clock x
  unfolding aged
  none_age = fold_keeps_in (λ (y : Sessions). x ≡ y) (aged_in s clock) s.clients (λ y d j f. none_ages_in d j ∙ rw f) x 0 s.clients (omega arith) refl
