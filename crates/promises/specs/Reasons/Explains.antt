-- 02, A8: "Prove that the named event occurred and that no later event restored the copy; for 1, that there was none; for 5 and 6, that the named lease was
-- dead."
-- Letters: s setup, l a line, u the state that it leads to, w an earlier one, d client, o object, k the last event, xs the steps of the run, n the number of the
-- chosen one, x the chosen one, q the machine that it meets.
use Rattle.std.specs.Prelude.{◌<◌, false, ◌≡◌}
use Rattle.protocol.specs.declared.setup.Setup.{Setup}
use Rattle.protocol.specs.declared.step.Step.{Step}
use Rattle.protocol.specs.Client.{showable}
use Rattle.protocol.specs.World.{World}
use Rattle.protocol.specs.Safety.View.{copy_at}

-- ---- a read answered "ask first": it was accepted, and its copy may not be shown
pub record Unshown (s : Setup) (w : World) (x : Step) : Type 0 where
  pub client : x.client < s.clients
  pub object : x.object < s.objects
  pub unshown : showable s w.tables (copy_at s w.copies x.client x.object) x.client x.object ≡ false
