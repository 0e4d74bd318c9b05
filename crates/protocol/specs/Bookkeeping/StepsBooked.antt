-- Every accepted step keeps the ledger and the tables together.
-- Letters: s setup, t and u tables, k their shape, b their bounds, c a copy, r a request, g a decision or what is staged, l a ledger, h that it is
-- booked, m a ledger or a message, q its kind, d client, o object, i place, T clock, y value, n how many, x a step. Of a message: n number, e epoch,
-- w version, x and y the volume's and the object's expiry, v volume or payload. The others, and e elsewhere, are proofs.
use Rattle.std.specs.Prelude.{◌+◌, ◌≡◌}
use Rattle.protocol.specs.declared.setup.Setup.{Setup}
use Rattle.protocol.specs.declared.step.Decision.{Decision}
use Rattle.protocol.specs.Answers.{reported}
use Rattle.protocol.specs.Ledger.{Ledger}
use Rattle.protocol.specs.Bookkeeping.Booked.{Booked}

-- ---- what an answer reports
-- a decision, and what the ledger l becomes with it
pub record Recorded (s : Setup) (l : Ledger) (g : Decision) (m : Ledger) : Type 0 where
  pub booked : Booked s g.outcome.tables m
  pub reports : m.completed_count ≡ l.completed_count + reported g.outcome.answer
