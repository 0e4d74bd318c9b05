-- An object's volume, the tests against the clock and one client's part in the latest end, as functions of the numbers that they read.
use Rattle.std.specs.Prelude.{ℕ, ◌+◌, min, max, ◌<◌, ◌≤◌, Bool, cond, not, ◌&&◌, ◌≡◌, eqb, leb}
use Rattle.protocol.specs.declared.setup.Setup.{Setup}
use Rattle.protocol.specs.Setup.{volume_of}
use Rattle.protocol.specs.Leases.{server_alive}

-- v is the volume of object o, with the bounds that hold for a setup in range; a row of the tables has 32 places
pub record Placed (s : Setup) (o v : ℕ) : Type 0 where
  pub is : v ≡ volume_of s o
  pub exists : v < s.volumes
  pub volume : v < 8
  pub object : o < 32
  pub clients : s.clients ≤ 16
  pub objects : s.objects ≤ 32

-- `waits`, `delays` and `ages` as functions of the numbers that they read
abbrev pub waits_by : ℕ → ℕ → ℕ → Bool
waits_by clock lease expiry = server_alive clock lease && server_alive clock expiry

abbrev pub delays_by : ℕ → ℕ → Bool → ℕ → Bool
delays_by clock lease unreachable expiry = server_alive clock lease && (not (server_alive clock expiry) && not unreachable)

abbrev pub ages_by : ℕ → ℕ → ℕ → ℕ → Bool
ages_by clock notes expiry delay = not (eqb notes 0) && leb (expiry + delay) clock

-- one client's part in `latest_end`, likewise
abbrev pub outlast_by : ℕ → Bool → ℕ → ℕ → ℕ
outlast_by end waiting volume object = cond waiting (max end (min volume object)) end
