use Rattle.std.proofs.Common.{◌≡◌, ◌-◌}
use Rattle.laws.specs.Loop.{fold_from}
use Rattle.laws.specs.Overlay.{overlay_at, overlay}
use Rattle.client_transfer.proofs.record.to_words.Given as goal

abbrev pub invariant-loop-k : goal.invariant-loop-k
invariant-loop-k g l = let r = g.R.Record in record {
  rest : r.Same l.fn.words l.fn.values l.words l.values;
  stored : fold_from (overlay_at r.none l.records) (r.lying l.words l.values) l.k (l.n - l.k) ≡ overlay r.none (r.lying l.fn.words l.fn.values) l.records l.n;
  words : l.n ≡ 0 → l.words ≡ l.fn.words;
  values : l.n ≡ 0 → l.values ≡ l.fn.values;
}
