-- In every run from fresh tables a GRANT under way names a version, and so what it fills is a copy: version 0 is none.
-- Letters: s setup, w world, x a step, t tables, q a message list, m a message, k its kind, g what is staged, d client, o object, v volume, n number, e epoch, ver
-- version, r a request, c a copy.
use Rattle.std.specs.Prelude.{◌≤◌}
use Rattle.laws.specs.Lists.{All}
use Rattle.protocol.specs.declared.message.Kind.{Kind}
use Rattle.protocol.specs.declared.message.Kind.TheVariants.{Renew, Grant, Invalidate, Ack, Offer, Dropped, Batch, Cleared}
use Rattle.protocol.specs.declared.message.Message.{Message}
use Rattle.protocol.specs.declared.tables.Tables.{Tables}

-- a GRANT of a version, 0 being no copy
abbrev pub Worth : Kind → Type 0
Worth (Renew _ _ _ _) = Unit {0}
Worth (Grant _ _ _ _ ver _ _) = 1 ≤ ver
Worth (Invalidate _ _ _) = Unit {0}
Worth (Ack _ _ _) = Unit {0}
Worth (Offer _ _ _) = Unit {0}
Worth (Dropped _ _ _) = Unit {0}
Worth (Batch _ _ _ _) = Unit {0}
Worth (Cleared _ _ _ _) = Unit {0}

abbrev pub WorthOf : Message → Type 0
WorthOf m = Worth m.kind

-- every message of the list
abbrev pub AllWorth : Tables → Type 0
AllWorth t = All WorthOf t.queue.items
