-- The last event of a line occurred, and none came after it. As long as none comes, a copy stays as it is.
-- Letters: s setup, w and u worlds, x a step, d client, o object, c and g copies, e an entry of a line, l a line, k the last event.
use Rattle.std.specs.Prelude.{ℕ, ◌≤◌, true, ◌≡◌}
use Rattle.protocol.specs.declared.records.Copy.{Copy}
use Rattle.protocol.specs.declared.setup.Setup.{Setup}
use Rattle.protocol.specs.declared.step.Step.{Step}
use Rattle.protocol.specs.World.{World}
use Rattle.promises.specs.declared.reasons.Why.TheVariants.{CopyInvalidated, LeasesDropped, ClientRestarted}
use Rattle.promises.specs.Reasons.Numbers.{number_of}
use Rattle.promises.specs.Reasons.Events.{invalidates, offers, restarts, cause}

-- ---- a copy as long as no event comes
-- version and expiry are the same
pub record AsBefore (c g : Copy) : Type 0 where
  pub version : g.version ≡ c.version
  pub expiry : g.expiry ≡ c.expiry

-- how a copy was erased: the reason that the step names is the true one
pub record How (s : Setup) (d o : ℕ) (w : World) (x : Step) : Type 0 where
  pub above : 2 ≤ number_of (cause w x)
  pub below : number_of (cause w x) ≤ 4
  pub two : cause w x ≡ CopyInvalidated → invalidates s w x d o ≡ true
  pub three : cause w x ≡ LeasesDropped → offers s w x d o ≡ true
  pub four : cause w x ≡ ClientRestarted → restarts s w x d ≡ true
