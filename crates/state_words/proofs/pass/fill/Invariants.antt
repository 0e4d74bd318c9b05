use mathlib.Core.Path.{◌≡◌}
use Prim.Native.Nat.{ℕ, ◌+◌, ◌-◌}
use Rattle.laws.specs.Loop.{fold_from}
use Rattle.laws.specs.Store.{store_at, always}
use Rattle.state_words.proofs.pass.fill.Given as goal

abbrev pub invariant-loop-i : goal.invariant-loop-i
invariant-loop-i g l =
    let one-turn = store_at always (λ (i : ℕ). l.field + i) (λ (i : ℕ). l.item) in
    fold_from one-turn l.list l.i (l.n - l.i) ≡ fold_from one-turn l.initial.list 0 l.n
