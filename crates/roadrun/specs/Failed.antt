-- What holds after a failure.
use Rattle.roadrun.specs.declared.failure.Failure.{Failure}
use Rattle.roadrun.specs.declared.failure.Failure.TheVariants.{Unread, Unwritten}

-- the fact holds where the input was not read to its end
abbrev pub IfUnread : Failure → Type 0 → Type 0
IfUnread (Unread e) P = P
IfUnread (Unwritten e) P = Unit {0}
