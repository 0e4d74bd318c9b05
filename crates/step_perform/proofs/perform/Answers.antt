use Rattle.std.proofs.Common.{◌≡◌, false, arith}
use Rattle.std.proofs.lemmas.Grind.{common_steps}
use Rattle.protocol.specs.Gate.{uses_client}
use Rattle.protocol.proofs.Soundness.StepCases.{passed, client_exists, object_exists, place_exists}
use Rattle.step_perform.proofs.Performing.{by_read, by_deliver, whoever_asks}
use Rattle.step_perform.proofs.perform.Goals as goal
use Rattle.step_perform.proofs.perform.Goals.{in_default-via-in-Ok+in_default, in_default-via-in_default}

pub read-requires-clause-client_lt_clients : goal.read-requires-clause-client_lt_clients
read-requires-clause-client_lt_clients c =
    let k : c.args.step.kind ≡ 2 = rw c.in-Ok-Read.field-0-is at c.in-Ok-Read.ensures in client_exists (passed _ _ _ _ c.requires.step_value) (rw k)

pub read-requires-clause-object_lt_objects : goal.read-requires-clause-object_lt_objects
read-requires-clause-object_lt_objects c =
    let k : c.args.step.kind ≡ 2 = rw c.in-Ok-Read.field-0-is at c.in-Ok-Read.ensures in object_exists (passed _ _ _ _ c.requires.step_value) (rw k)

pub deliver-requires-clause-place_bound : goal.deliver-requires-clause-place_bound
deliver-requires-clause-place_bound c =
    let k : c.args.step.kind ≡ 5 = rw c.in-Ok-Deliver.field-0-is at c.in-Ok-Deliver.ensures in place_exists (passed _ _ _ _ c.requires.step_value) (rw k)

pub of_no_client-requires-clause-step_value : goal.of_no_client-requires-clause-step_value
of_no_client-requires-clause-step_value c =
    let p : uses_client c.args.step ≡ false = elim c.in_default.branch
    [ in_default-via-in-Ok+in_default w ↦ grind (arith, common_steps) | in_default-via-in_default w ↦ grind (arith, common_steps) ] in
    whoever_asks _ p _ _ _ c.requires.step_value

pub returns-in-Ok-Read-clause-answer_after : goal.returns-in-Ok-Read-clause-answer_after
returns-in-Ok-Read-clause-answer_after c = by_read _ _ _ _ _ _ _ (rw c.in-Ok-Read.field-0-is at c.in-Ok-Read.ensures) c.read.ensures

pub returns-in-Ok-Deliver-clause-answer_after : goal.returns-in-Ok-Deliver-clause-answer_after
returns-in-Ok-Deliver-clause-answer_after c =
    by_deliver _ _ _ _ _ _ _ (rw c.in-Ok-Deliver.field-0-is at c.in-Ok-Deliver.ensures) c.deliver.ensures.answer_after
