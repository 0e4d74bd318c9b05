use Rattle.std.proofs.Common.{◌≡◌, arith}
use Rattle.std.proofs.lemmas.Grind.{common_steps}
use Rattle.protocol.proofs.SoundLaws.{sound_clock, growing, sound_length}
use Rattle.protocol.proofs.Soundness.StepCases.{passed, object_exists, place_exists, version_grows, epochs_grow}
use Rattle.protocol.specs.Tables.{no_request}
use Rattle.state_words.proofs.LiveRows.{live}
use Rattle.step_perform.proofs.OtherStepPerforming.{by_clock, by_write, by_lose, by_double, by_restart_server, known_bounds}
use Rattle.step_perform.proofs.other_step.of_no_client.Goals as goal
use Rattle.step_perform.proofs.other_step.of_no_client.Goals.{in_default-via-in-Ok+in_default, in_default-via-in_default}

pub pass_time-requires-clause-growing : goal.pass_time-requires-clause-growing
pass_time-requires-clause-growing c = growing _ _ c.requires.values_value

pub accept_write-requires-clause-values_bound : goal.accept_write-requires-clause-values_bound
accept_write-requires-clause-values_bound c = sound_clock _ _ c.requires.values_value

pub accept_write-requires-clause-object_lt_objects : goal.accept_write-requires-clause-object_lt_objects
accept_write-requires-clause-object_lt_objects c =
    let k : c.args.step.kind ≡ 4 = rw c.in-Ok-Write.field-0-is at c.in-Ok-Write.ensures in
    object_exists (passed _ _ _ _ (c.requires.step_value no_request)) (rw k)

pub accept_write-requires-clause-object_bound : goal.accept_write-requires-clause-object_bound
accept_write-requires-clause-object_bound c = version_grows (passed _ _ _ _ (c.requires.step_value no_request)) (rw c.in-Ok-Write.field-0-is at c.in-Ok-Write.ensures)

pub remove-requires-clause-place_bound : goal.remove-requires-clause-place_bound
remove-requires-clause-place_bound c =
    let k : c.args.step.kind ≡ 6 = rw c.in-Ok-Lose.field-0-is at c.in-Ok-Lose.ensures in
    place_exists (passed _ _ _ _ (c.requires.step_value no_request)) (rw k)

pub remove-requires-clause-values_bound : goal.remove-requires-clause-values_bound
remove-requires-clause-values_bound c = sound_length _ _ c.requires.values_value

pub double-requires : goal.double-requires
double-requires c =
    let k : c.args.step.kind ≡ 7 = rw c.in-Ok-Double.field-0-is at c.in-Ok-Double.ensures in
    live _ _ _ _ (place_exists (passed _ _ _ _ (c.requires.step_value no_request)) (rw k)) c.requires.setup_value c.requires.values_value

pub restart-requires-clause-epochs_grow : goal.restart-requires-clause-epochs_grow
restart-requires-clause-epochs_grow c = record {
  below = epochs_grow (passed _ _ _ _ (c.requires.step_value no_request)) (rw c.in-Ok-RestartServer.field-0-is at c.in-Ok-RestartServer.ensures);
}

pub unreachable-requires : goal.unreachable-requires
unreachable-requires c =
    let b = known_bounds _ (passed _ _ _ _ (c.requires.step_value no_request)).knows in
    elim c.in_default.branch [ in_default-via-in-Ok+in_default w ↦ grind (arith, common_steps) | in_default-via-in_default w ↦ grind (arith, common_steps) ]

pub returns-in-Ok-Clock-clause-values_after : goal.returns-in-Ok-Clock-clause-values_after
returns-in-Ok-Clock-clause-values_after c p r = by_clock _ p r _ _ _ _ (rw c.in-Ok-Clock.field-0-is at c.in-Ok-Clock.ensures) c.pass_time.ensures.values_after

pub returns-in-Ok-Write-clause-values_after : goal.returns-in-Ok-Write-clause-values_after
returns-in-Ok-Write-clause-values_after c p r = by_write _ p r _ _ _ _ (rw c.in-Ok-Write.field-0-is at c.in-Ok-Write.ensures) c.accept_write.ensures.values_after

pub returns-in-Ok-Lose-clause-values_after : goal.returns-in-Ok-Lose-clause-values_after
returns-in-Ok-Lose-clause-values_after c p r = by_lose _ p r _ _ _ (rw c.in-Ok-Lose.field-0-is at c.in-Ok-Lose.ensures) c.remove.ensures.values_after

pub returns-in-Ok-Double-clause-values_after : goal.returns-in-Ok-Double-clause-values_after
returns-in-Ok-Double-clause-values_after c p r = by_double _ p r _ _ _ (rw c.in-Ok-Double.field-0-is at c.in-Ok-Double.ensures) c.double.ensures.values_after

pub returns-in-Ok-RestartServer-clause-values_after : goal.returns-in-Ok-RestartServer-clause-values_after
returns-in-Ok-RestartServer-clause-values_after c p r =
    by_restart_server _ p r _ _ _ (rw c.in-Ok-RestartServer.field-0-is at c.in-Ok-RestartServer.ensures) c.restart.ensures.values_after
