-- Step 2 as a function of what it reads: the client's clock, the expiry of its volume lease, and the copy.
use Rattle.std.specs.Prelude.{ℕ, Bool, not, ◌&&◌, eqb}
use Rattle.protocol.specs.declared.records.Copy.{Copy}
use Rattle.protocol.specs.Leases.{client_alive}

unfoldable pub shown_at : ℕ → ℕ → Copy → Bool
shown_at clock expiry c = not (eqb c.version 0) && (client_alive clock expiry && client_alive clock c.expiry)
