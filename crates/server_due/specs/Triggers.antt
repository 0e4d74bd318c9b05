-- Which standing writes the server completes after a clock step, a DROPPED, a write or an ACK.
use Rattle.std.specs.Prelude.{ℕ, Bool}
use Rattle.protocol.specs.declared.setup.Setup.{Setup}
use Rattle.protocol.specs.declared.tables.Tables.{Tables}
use Rattle.protocol.specs.Writes.{Staged, due, ready}
use Rattle.protocol.specs.Server.{ready_in}
use Rattle.server_due.specs.declared.Trigger.{Trigger}
use Rattle.server_due.specs.declared.Trigger.TheVariants.{Clock, Volume}

-- a clock step completes what is due, a DROPPED what is ready in its volume
unfoldable pub triggered : Setup → Trigger → Tables → ℕ → Bool
triggered s Clock = due s
triggered s (Volume v) = ready_in s v

abbrev pub trigger_staged : Setup → Trigger → Tables → Staged
trigger_staged s p t = record { tables = t; test = triggered s p; from = 0; many = s.objects }

-- a write or an ACK can complete the write of its own object alone
abbrev pub one_staged : Setup → Tables → ℕ → Staged
one_staged s t o = record { tables = t; test = ready s; from = o; many = 1 }
