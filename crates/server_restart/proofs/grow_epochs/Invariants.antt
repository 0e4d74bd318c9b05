use mathlib.Core.Path.{◌≡◌}
use Prim.Native.Nat.{ℕ, ◌+◌, ◌-◌}
use lib.ListN.{get_or}
use Rattle.laws.specs.Loop.{fold_from}
use Rattle.laws.specs.Parts.{parts}
use Rattle.laws.specs.Shift.{Above}
use Rattle.laws.specs.Store.{store_at, always}
use Rattle.state_words.specs.Fields.{word_lengths, at, VOLUME_EPOCH}
use Rattle.server_restart.proofs.grow_epochs.Given as goal

abbrev pub invariant-loop-volume : goal.invariant-loop-volume
invariant-loop-volume l =
    let one-turn = store_at always (λ (v : ℕ). at VOLUME_EPOCH + v) (λ (v : ℕ). get_or (parts word_lengths l.initial.words VOLUME_EPOCH) v 0 + 1) in
    Above l.initial.words l.words (at VOLUME_EPOCH + l.volume) × (fold_from one-turn l.words l.volume (l.n - l.volume) ≡ fold_from one-turn l.initial.words 0 l.n)
