-- The same event told by a step's answer, for whoever keeps the last event beside a run: an answer carries the message that was delivered, so that the copy
-- before and after the step and the request before it are all that must be looked at.
-- Letters: s setup, w world, x a step, a an answer, r a request, d client, o object, c and g the copy before and after.
use Rattle.std.specs.Prelude.{ℕ, Bool, false, cond, ◌&&◌, eqb, Option, None, Some}
use Rattle.protocol.specs.declared.records.Copy.{Copy}
use Rattle.protocol.specs.declared.records.Request.{Request}
use Rattle.protocol.specs.declared.step.Answer.{Answer}
use Rattle.protocol.specs.declared.step.Answer.TheVariants.{Done, Shown, AskFirst, Completed, Delivered, Refused}
use Rattle.protocol.specs.declared.step.Step.{Step}
use Rattle.protocol.specs.Gate.{is_restart_client}
use Rattle.promises.specs.declared.reasons.Event.{Event}
use Rattle.promises.specs.declared.reasons.Event.TheVariants.{Granted, Erased}
use Rattle.promises.specs.declared.reasons.Why.{Why}
use Rattle.promises.specs.declared.reasons.Why.TheVariants.{NoCause, ClientRestarted}
use Rattle.promises.specs.Reasons.Events.{is_grant, vanished, receipt_cause}

abbrev pub granted_by : Request → ℕ → ℕ → Answer → Bool
granted_by r d o Done = false
granted_by r d o (Shown _) = false
granted_by r d o AskFirst = false
granted_by r d o (Completed _) = false
granted_by r d o (Delivered m _) = eqb m.client d && is_grant r o m.kind
granted_by r d o (Refused _) = false

abbrev pub delivered_cause : Answer → Why
delivered_cause Done = NoCause
delivered_cause (Shown _) = NoCause
delivered_cause AskFirst = NoCause
delivered_cause (Completed _) = NoCause
delivered_cause (Delivered m _) = receipt_cause m.kind
delivered_cause (Refused _) = NoCause

abbrev pub cause_by : Step → Answer → Why
cause_by x a = cond (is_restart_client x) ClientRestarted (delivered_cause a)

unfoldable pub event_by : ℕ → ℕ → Request → Copy → Copy → Step → Answer → Option Event
event_by d o r c g x a = cond (granted_by r d o a) (Some Granted) (cond (vanished c g) (Some (Erased (cause_by x a))) None)
