-- A history in which each event is lawful after those before it, and what follows for the whole.
-- Letters: s setup, h a history, a that it is lawful, e an event, d client, o and k objects, v and y values, u and z latest ends, T clock, b a test;
-- the others are proofs.
use Prim.Native.Nat.{ℕ, ◌<◌}
use Rattle.std.specs.Prelude.{true, false, ◌≡◌}
use mathlib.Core.List.{List, [], ◌∷◌}
use Rattle.protocol.specs.declared.setup.Setup.{Setup}
use Rattle.protocol.specs.Leases.{end_over}
use Rattle.protocol.specs.Ledger.{Event, acceptance, completion, server_restart, showing, clock_step, none, write, is_open}
use Rattle.protocol.specs.History.{last_completed, open_in}

-- what may happen after a history
abbrev pub Lawful : Setup → List Event → Event → Type 0
Lawful s past (acceptance o v u) = (o < s.objects) × (open_in o past ≡ none)
Lawful s past (completion o) = is_open (open_in o past) ≡ true
Lawful s past server_restart = Unit {0}
Lawful s past (showing d o v) = v ≡ last_completed o past
Lawful s past (clock_step T) = (o v u : ℕ) → o < s.objects → open_in o past ≡ write v u → end_over T u ≡ false

unfoldable pub LawfulAll : Setup → List Event → Type 0
LawfulAll s [] = Unit {0}
LawfulAll s (e ∷ past) = Lawful s past e × LawfulAll s past
