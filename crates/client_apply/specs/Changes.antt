-- The world with one of its records replaced; indices past the last record change nothing.
use Rattle.std.specs.Prelude.{ℕ, get_or, set}
use Rattle.laws.specs.Loop.{fold_from}
use Rattle.protocol.specs.declared.records.Copy.{Copy}
use Rattle.protocol.specs.declared.setup.Setup.{Setup}
use Rattle.protocol.specs.declared.step.Change.{Change}
use Rattle.protocol.specs.declared.step.CopyChange.{CopyChange}
use Rattle.protocol.specs.declared.step.Sweep.{Sweep}
use Rattle.protocol.specs.declared.step.Target.{Target}
use Rattle.protocol.specs.declared.step.Turn.{Turn}
use Rattle.protocol.specs.Tables.{no_copy, no_request}
use Rattle.protocol.specs.Client.{turned, changed, sweep_at, swept_all}
use Rattle.protocol.specs.World.{World}

abbrev pub copy_put : World → ℕ → Copy → World
copy_put u place c = record { tables = u.tables; copies = set u.copies place c; requests = u.requests }

abbrev pub copy_changed : World → ℕ → CopyChange → World
copy_changed u place g = copy_put u place (changed (get_or u.copies place no_copy) g)

abbrev pub swept_of : Setup → Sweep → ℕ → ℕ → World → World
swept_of s g first n u = record { tables = u.tables; copies = fold_from (sweep_at s g first) u.copies first n; requests = u.requests }

abbrev pub request_turned : World → ℕ → Turn → World
request_turned u d g = record { tables = u.tables; copies = u.copies; requests = set u.requests d (turned (get_or u.requests d no_request) g) }

-- the world with a change applied to the records that a step targets (as in `copies_after` and `requests_after`)
abbrev pub changed_at : Setup → World → Target → Change → World
changed_at s u a g = record {
  tables = u.tables;
  copies = swept_all s g.sweep a.first (set u.copies a.copy (changed (get_or u.copies a.copy no_copy) g.copy));
  requests = set u.requests a.client (turned (get_or u.requests a.client no_request) g.request);
}
