use Rattle.std.proofs.Common.{◌≡◌}
use Rattle.protocol.proofs.Soundness.StepCases.{passed, client_exists, object_exists}
use Rattle.step_perform.proofs.ClientStepPerforming.{by_ask, by_restart_client}
use Rattle.step_perform.proofs.client_step.of_client.Goals as goal

pub ask-requires-clause-client_lt_clients : goal.ask-requires-clause-client_lt_clients
ask-requires-clause-client_lt_clients c = client_exists (passed _ _ _ _ c.requires.step_value) c.requires.step_value_2

pub ask-requires-clause-object_lt_objects : goal.ask-requires-clause-object_lt_objects
ask-requires-clause-object_lt_objects c =
    let k : c.args.step.kind ≡ 3 = rw c.in-Ok-Ask.field-0-is at c.in-Ok-Ask.ensures in object_exists (passed _ _ _ _ c.requires.step_value) (rw k)

pub restart-requires-clause-client_lt_clients : goal.restart-requires-clause-client_lt_clients
restart-requires-clause-client_lt_clients c = client_exists (passed _ _ _ _ c.requires.step_value) c.requires.step_value_2

pub returns-in-Ok-Ask-clause-values_after : goal.returns-in-Ok-Ask-clause-values_after
returns-in-Ok-Ask-clause-values_after c =
    by_ask _ _ _ _ _ _ _ (rw c.in-Ok-Ask.field-0-is at c.in-Ok-Ask.ensures) c.ask.ensures.values_after c.asking.ensures

pub returns-in-Ok-RestartClient-clause-values_after : goal.returns-in-Ok-RestartClient-clause-values_after
returns-in-Ok-RestartClient-clause-values_after c =
    by_restart_client _ _ _ _ _ _ _ (rw c.in-Ok-RestartClient.field-0-is at c.in-Ok-RestartClient.ensures) c.restart.ensures.values_after
    c.restarting.ensures
