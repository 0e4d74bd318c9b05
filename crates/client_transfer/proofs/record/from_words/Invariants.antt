use Rattle.std.proofs.Common.{◌≡◌, ◌-◌}
use Rattle.laws.specs.Loop.{fold_from}
use Rattle.laws.specs.Overlay.{overlay_at, overlay}
use Rattle.client_transfer.proofs.record.from_words.Given as goal

abbrev pub invariant-loop-k : goal.invariant-loop-k
invariant-loop-k g l =
    let r = g.R.Record in
    fold_from (overlay_at r.none (r.lying l.words l.values)) l.records l.k (l.n - l.k) ≡ overlay r.none l.fn.records (r.lying l.words l.values) l.n
