-- What one client knows and holds is replaced while its request ends: a GRANT or an OFFER taken, a restart. Nobody else is touched.
use Rattle.std.specs.Prelude.{ℕ, ◌<◌, ◌≤◌, List, ◌≡◌, get_or}
use Rattle.protocol.specs.declared.message.Kind.TheVariants.{Ack, Dropped, Cleared}
use Rattle.protocol.specs.declared.records.Copy.{Copy}
use Rattle.protocol.specs.declared.setup.Setup.{Setup}
use Rattle.protocol.specs.declared.tables.Tables.{Tables}
use Rattle.protocol.specs.Tables.{by_volume, epoch_at, value_at, version_at, view_epoch_at, view_expiry_at, with_views}
use Rattle.protocol.specs.Updates.{with_view_epoch, with_view_expiry}
use Rattle.protocol.specs.World.{World}
use Rattle.protocol.specs.Safety.View.{Unheld, copy_at, view_at}
use Rattle.protocol.specs.Safety.Invariant.{Sent, from, clocks_of, CoveredIn, RemainsIn, AnswersIn, ClearsIn, AcknowledgesIn}

-- ---- in all volumes

abbrev pub seeing : World → List ℕ → List ℕ → List Copy → World
seeing w known expiry copies = record { tables = with_views w.tables (with_view_expiry (with_view_epoch w.tables.views known) expiry); copies = copies; requests = w.requests }

-- the other clients' views and copies stay
pub record Others (s : Setup) (t : Tables) (d : ℕ) (known₁ expiry₁ : List ℕ) (copies₀ copies₁ : List Copy) : Type 0 where
  pub known : (k v : ℕ) → (k ≡ d → ⊥) → v < s.volumes → get_or known₁ (by_volume k v) 0 ≡ view_epoch_at t k v
  pub expiry : (k v : ℕ) → (k ≡ d → ⊥) → v < s.volumes → get_or expiry₁ (by_volume k v) 0 ≡ view_expiry_at t k v
  pub copies : (k o : ℕ) → (k ≡ d → ⊥) → o < s.objects → copy_at s copies₁ k o ≡ copy_at s copies₀ k o

-- what is to be shown of the client itself
pub record Own (s : Setup) (t : Tables) (d : ℕ) (known expiry : List ℕ) (copies : List Copy) : Type 0 where
  pub epochs : (v : ℕ) → v < s.volumes → get_or known (by_volume d v) 0 ≤ epoch_at t v
  pub reached : (o : ℕ) → o < s.objects → (copy_at s copies d o).version ≤ version_at t o
  pub values : (o : ℕ) → o < s.objects → (copy_at s copies d o).version ≡ version_at t o → (copy_at s copies d o).value ≡ value_at t o
  pub views : (v : ℕ) → v < s.volumes → CoveredIn s t d v (view_at s known expiry copies d v)
  pub erased : (o e ver : ℕ) → Sent t.queue (from d (Ack o e ver)) → AcknowledgesIn s t o e ver → (copy_at s copies d o).version ≡ 0
  pub remains : (v n e : ℕ) → v < s.volumes → Sent t.queue (from d (Dropped v n e)) → AnswersIn t d v n e → get_or known (by_volume d v) 0 ≡ epoch_at t v
      → RemainsIn s t d v (view_at s known expiry copies d v)
  pub unheld : (v n e m : ℕ) → v < s.volumes → Sent t.queue (from d (Cleared v n e m)) → ClearsIn t d v n e → get_or known (by_volume d v) 0 ≡ epoch_at t v
      → Unheld s (clocks_of t d) v m (view_at s known expiry copies d v)
