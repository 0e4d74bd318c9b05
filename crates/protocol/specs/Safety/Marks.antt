-- The server counts on fewer copies than before: a mark, any number of them, and notes (Delaying). Nothing else changes by it.
use Rattle.std.specs.Prelude.{ℕ, ◌<◌, ◌⊎◌, ◌≡◌}
use Rattle.std.proofs.Math.Bool.{true, false}
use Rattle.std.proofs.Math.ListN.{get_or}
use Rattle.protocol.specs.declared.setup.Setup.{Setup}
use Rattle.protocol.specs.declared.tables.Sessions.{Sessions}
use Rattle.protocol.specs.Tables.{by_volume}
use Rattle.protocol.specs.Safety.View.{excused}

-- a batch is void, or it, its notes and the mark are as they were
abbrev pub Voids : Sessions → Sessions → ℕ → ℕ → Type 0
Voids x x' d v =
    (get_or x'.batch (by_volume d v) 0 ≡ 0)
    ⊎ ((get_or x'.batch (by_volume d v) 0 ≡ get_or x.batch (by_volume d v) 0) × (get_or x'.notes (by_volume d v) 0 ≡ get_or x.notes (by_volume d v) 0)
    × (get_or x'.unreachable (by_volume d v) false ≡ get_or x.unreachable (by_volume d v) false))

-- x' is x with more doubts: who is marked stays marked, what is excused stays excused, and a batch is void, or stands with its notes as it did
pub record Doubted (s : Setup) (x x' : Sessions) : Type 0 where
  pub seen : x'.seen ≡ x.seen
  pub expiry : x'.expiry ≡ x.expiry
  pub offer : x'.offer ≡ x.offer
  pub marks : (d v : ℕ) → d < s.clients → v < s.volumes → get_or x.unreachable (by_volume d v) false ≡ true → get_or x'.unreachable (by_volume d v) false ≡ true
  pub excuses : (d v o : ℕ) → d < s.clients → v < s.volumes → o < s.objects → excused x.unreachable x.notes d v o ≡ true
      → excused x'.unreachable x'.notes d v o ≡ true
  pub batches : (d v : ℕ) → d < s.clients → v < s.volumes → Voids x x' d v
