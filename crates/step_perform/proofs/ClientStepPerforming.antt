-- An accepted step x of one client, by its kind: a function that turns the tables t into u and returns the change g does what the decision says.
use mathlib.Core.Path.{◌≡◌}
use Rattle.protocol.specs.declared.records.Copy.{Copy}
use Rattle.protocol.specs.declared.records.Request.{Request}
use Rattle.protocol.specs.declared.setup.Setup.{Setup}
use Rattle.protocol.specs.declared.step.Answer.TheVariants.{Done}
use Rattle.protocol.specs.declared.step.Change.{Change}
use Rattle.protocol.specs.declared.step.CopyChange.TheVariants as copy
use Rattle.protocol.specs.declared.step.Step.{Step}
use Rattle.protocol.specs.declared.step.Sweep.TheVariants as sweep
use Rattle.protocol.specs.declared.step.Turn.TheVariants as request
use Rattle.protocol.specs.declared.tables.Tables.{Tables}
use Rattle.protocol.specs.Decide.{answered, ask_decided, restart_decided, performed}
use Rattle.protocol.proofs.Soundness.StepCases.{ask_performed, client_performed}

module _ (s : Setup) (c : Copy) (r : Request) (x : Step) (t u : Tables) where
  pub by_ask : (g : Change) → x.kind ≡ 3 → u ≡ (ask_decided s t c r x.client x.object).outcome.tables
      → g ≡ record { copy = copy.Keep; request = request.Take x.object; sweep = sweep.Keep } → answered g u Done ≡ performed s t c r x
  unfolding ask_decided
  by_ask g k e f = rw (f, ask_performed s t c r x k, e)

  pub by_restart_client : (g : Change) → x.kind ≡ 9 → u ≡ (restart_decided s t x.client).outcome.tables
      → g ≡ record { copy = copy.Keep; request = request.End; sweep = sweep.Erase } → answered g u Done ≡ performed s t c r x
  unfolding restart_decided
  by_restart_client g k e f = rw (f, client_performed s t c r x k, e)
