-- What a step that is answered "shown" was: a read of a copy that may be shown.
-- Letters: s setup, w world, t its tables, x a step, i its place, c and z copies, r a request, g a decision, d client, o object, n a number of writes;
-- the others are proofs.
use Rattle.std.specs.Prelude.{◌<◌, ◌≡◌}
use Rattle.std.proofs.Math.Bool.{true}
use Rattle.protocol.specs.declared.setup.Setup.{Setup}
use Rattle.protocol.specs.declared.step.Step.{Step}
use Rattle.protocol.specs.Client.{showable}
use Rattle.protocol.specs.Answers.{answer_value}
use Rattle.protocol.specs.World.{World, answer_of}
use Rattle.protocol.specs.Ledger.{accepts}
use Rattle.protocol.specs.Safety.View.{copy_at}

pub record ReadShown (s : Setup) (w : World) (x : Step) : Type 0 where
  pub takes : accepts s w x ≡ true
  pub kind : x.kind ≡ 2
  pub client : x.client < s.clients
  pub object : x.object < s.objects
  pub shows : showable s w.tables (copy_at s w.copies x.client x.object) x.client x.object ≡ true
  pub value : answer_value (answer_of s w x) ≡ (copy_at s w.copies x.client x.object).value
