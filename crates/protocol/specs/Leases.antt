-- The tests of time. Whoever proves something about leases uses these names and their laws alone.
use Rattle.std.specs.Prelude.{ℕ, Bool, not, ltb}
use Rattle.protocol.specs.declared.tables.Tables.{Tables}
use Rattle.protocol.specs.Tables.{guard_at}

-- "A lease is alive when its expiry is greater than the clock.": by the server's clock
unfoldable pub server_alive : ℕ → ℕ → Bool
server_alive clock expiry = ltb clock expiry

-- the same by the client's clock
unfoldable pub client_alive : ℕ → ℕ → Bool
client_alive clock expiry = ltb clock expiry

-- the clock that client d goes by: all share the server's
unfoldable pub client_clock : ℕ → ℕ → ℕ
client_clock clock d = clock

-- "clock at or past guard": no lease from before the last restart is alive
unfoldable pub guard_passed : Tables → ℕ → Bool
guard_passed t v = not (server_alive t.clock (guard_at t v))

-- "whose latest end is below the clock"
unfoldable pub end_over : ℕ → ℕ → Bool
end_over clock end = ltb end clock
