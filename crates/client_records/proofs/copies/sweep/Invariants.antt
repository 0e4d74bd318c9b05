use mathlib.Core.Path.{◌≡◌}
use Prim.Native.Nat.{◌+◌, ◌-◌}
use Rattle.laws.specs.Loop.{fold_from}
use Rattle.protocol.specs.Client.{sweep_at}
use Rattle.state_words.specs.View.{tables_of, records_of}
use Rattle.client_records.proofs.copies.sweep.Given as goal

abbrev pub invariant-loop-place : goal.invariant-loop-place
invariant-loop-place l = record {
  tables : tables_of l.words l.values ≡ tables_of l.initial.words l.initial.values;
  requests : (records_of l.words l.values).requests ≡ (records_of l.initial.words l.initial.values).requests;
  copies : fold_from (sweep_at l.setup l.g l.first) (records_of l.words l.values).copies l.place (l.first + l.n - l.place)
      ≡ fold_from (sweep_at l.setup l.g l.first) (records_of l.initial.words l.initial.values).copies l.first l.n;
}
