use mathlib.Core.Path.{◌≡◌}
use Prim.Native.Nat.{◌≤◌, ◌-◌}
use Rattle.laws.specs.Loop.{fold_from}
use Rattle.protocol.specs.Writes.{complete_if}
use Rattle.protocol.specs.SoundLaws.{Growing}
use Rattle.state_words.specs.View.{tables_of, records_of}
use Rattle.server_due.specs.Triggers.{triggered}
use Rattle.server_complete.proofs.settle.settle.Given as goal

abbrev pub invariant-loop-object : goal.invariant-loop-object
invariant-loop-object l =
    let one-turn = complete_if (triggered l.setup l.trigger) l.setup in
    record {
      counted : l.count ≤ l.object;
      growing : Growing l.setup (tables_of l.words l.values).objects;
      records : records_of l.words l.values ≡ records_of l.initial.words l.initial.values;
      done : fold_from one-turn (record { count = l.count; tables = tables_of l.words l.values }) l.object (l.setup.objects - l.object)
          ≡ fold_from one-turn (record { count = 0; tables = tables_of l.initial.words l.initial.values }) 0 l.setup.objects;
    }
