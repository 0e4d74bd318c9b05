-- When a view is covered, or needs no more than a DROPPED leaves: by what it says, by how much covers it, with nothing in it, and by the guard alone.
use Rattle.std.specs.Prelude.{ℕ, ◌<◌, List, ◌⊎◌, ◌≡◌}
use Rattle.protocol.specs.declared.records.Copy.{Copy}
use Rattle.protocol.specs.declared.setup.Setup.{Setup}
use Rattle.protocol.specs.Setup.{volume_of}
use Rattle.protocol.specs.Safety.View.{copy_at, View, Held}

-- ---- a view that says the same, perhaps without some copies

pub record Less (s : Setup) (clock v : ℕ) (view view' : View) : Type 0 where
  pub known : view'.known ≡ view.known
  pub expiry : view'.expiry ≡ view.expiry
  pub copies : (o : ℕ) → Held s clock v view' o → (view'.held o ≡ view.held o) × (view'.until o ≡ view.until o)

-- client d's copies in the volume, some perhaps erased
pub record Fewer (s : Setup) (d v : ℕ) (copies copies' : List Copy) : Type 0 where
  pub each : (o : ℕ) → o < s.objects → volume_of s o ≡ v → ((copy_at s copies' d o).version ≡ 0) ⊎ (copy_at s copies' d o ≡ copy_at s copies d o)

-- ---- nothing known, nothing held

pub record Empty (s : Setup) (clock v : ℕ) (view : View) : Type 0 where
  pub volume : view.expiry ≡ 0
  pub objects : (o : ℕ) → Held s clock v view o → ⊥
