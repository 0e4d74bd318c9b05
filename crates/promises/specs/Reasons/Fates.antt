-- What a step makes of a copy: it stays, a GRANT fills it, an INVALIDATE, a BATCH or a restart of its client erases it, or an OFFER ends its lease. There is no other way.
-- Letters: s setup, w world, x a step, d client, o object, g the copy after the step, m the message that is delivered, k its kind; of a message i is the
-- object, v the volume, n the number, e the epoch, ver the version, p and q the volume and object expiry, y the payload.
use Rattle.std.specs.Prelude.{ℕ, ◌≡◌}
use Rattle.std.proofs.Math.Bool.{true}
use Rattle.protocol.specs.declared.records.Copy.{Copy}
use Rattle.protocol.specs.declared.setup.Setup.{Setup}
use Rattle.protocol.specs.declared.step.Step.{Step}
use Rattle.protocol.specs.Tables.{no_copy}
use Rattle.protocol.specs.World.{World}
use Rattle.protocol.specs.Safety.View.{copy_at}
use Rattle.promises.specs.declared.reasons.Why.TheVariants.{CopyInvalidated, LeasesDropped, ClientRestarted}
use Rattle.promises.specs.Reasons.Events.{grants, invalidates, offers, restarts, cause}

-- the copy with its lease ended
abbrev pub ended : Copy → Copy
ended c = record { version = c.version; value = c.value; expiry = 0 }

pub data Fate (s : Setup) (w : World) (x : Step) (d o : ℕ) (g : Copy) : Type 0 where
  stays : g ≡ copy_at s w.copies d o → Fate s w x d o g
  filled : grants s w x d o ≡ true → Fate s w x d o g
  invalidated : invalidates s w x d o ≡ true → cause w x ≡ CopyInvalidated → g ≡ no_copy → Fate s w x d o g
  offered : offers s w x d o ≡ true → cause w x ≡ LeasesDropped → g ≡ ended (copy_at s w.copies d o) → Fate s w x d o g
  batched : offers s w x d o ≡ true → cause w x ≡ LeasesDropped → g ≡ no_copy → Fate s w x d o g
  restarted : restarts s w x d ≡ true → cause w x ≡ ClientRestarted → g ≡ no_copy → Fate s w x d o g
