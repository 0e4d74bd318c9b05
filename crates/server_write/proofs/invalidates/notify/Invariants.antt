use mathlib.Core.Path.{◌≡◌}
use Prim.Native.Nat.{◌-◌}
use Rattle.laws.specs.Loop.{fold_from}
use Rattle.protocol.specs.Tables.{awaited_at}
use Rattle.protocol.specs.Writes.{notify, notified}
use Rattle.state_words.specs.View.{tables_of}
use Rattle.server_write.proofs.Laws.{Sending}
use Rattle.server_write.proofs.invalidates.notify.Given as goal

abbrev pub invariant-loop-client : goal.invariant-loop-client
invariant-loop-client l =
    let t = tables_of l.initial.words l.initial.values in
    let it = l.client-iterator in record {
      ends : it.n ≡ l.fn.setup.clients;
      among : it.set ≡ awaited_at t l.object;
      sending : Sending l.initial.words l.initial.values l.words l.values;
      left : fold_from (notify l.fn.setup t l.object) (tables_of l.words l.values).queue it.from (it.n - it.from) ≡ notified l.fn.setup t l.object;
    }
