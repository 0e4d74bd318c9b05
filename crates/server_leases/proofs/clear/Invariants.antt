use Rattle.std.specs.Prelude.{◌≡◌, ℕ, Bool, ◌+◌, ◌-◌, ◌<◌}
use Rattle.laws.specs.Loop.{fold_from}
use Rattle.laws.specs.Store.{store_at}
use Rattle.protocol.specs.Tables.{by_object}
use Rattle.state_words.specs.Fields.{at, LEASE}
use Rattle.server_leases.proofs.clear.Given as goal

abbrev pub invariant-loop-object : goal.invariant-loop-object
invariant-loop-object g l =
    (p : ℕ → Bool) → ((o : ℕ) (yes : Bool) → o < l.n → goal.F-post g l.given_up o yes → yes ≡ p o)
    → fold_from (store_at {A = ℕ} p (λ (o : ℕ). at LEASE + by_object l.client o) (λ (o : ℕ). 0)) l.words l.object (l.n - l.object)
    ≡ fold_from (store_at {A = ℕ} p (λ (o : ℕ). at LEASE + by_object l.client o) (λ (o : ℕ). 0)) l.initial.words 0 l.n
