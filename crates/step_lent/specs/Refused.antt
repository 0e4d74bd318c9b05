-- "the first "no" gives its number, nothing else, and every lent table and buffer is unchanged"
use Rattle.std.specs.Prelude.{ℕ, ◌<◌, false, List, ◌≡◌}
use Rattle.std.proofs.Common.{⊎_elim, ap, ◌∙◌, eq-eqb}
use Rattle.laws.specs.Choice.{true_or_false, not_both}
use Rattle.protocol.specs.declared.records.Copy.{Copy}
use Rattle.protocol.specs.declared.records.Request.{Request}
use Rattle.protocol.specs.declared.setup.Setup.{Setup}
use Rattle.protocol.specs.declared.step.Answer.TheVariants.{Refused}
use Rattle.protocol.specs.declared.step.Step.{Step}
use Rattle.protocol.specs.Answers.{answer_number}
use Rattle.protocol.specs.World.{World, stepped, answer_of}
use Rattle.protocol.specs.Ledger.{accepts}
use Rattle.protocol.specs.Sound.{records_sound}
use Rattle.protocol.specs.Soundness.StepCases.{request_of}
use Rattle.protocol.proofs.Soundness.StepCases.{refused_answer, refused_keeps}
use Rattle.protocol.proofs.Soundness.Answered.{accepted_not_refused}
use Rattle.state_words.specs.View.{tables_of}
use Rattle.state_words.specs.LiveRows.{message_there}
use Rattle.state_words.proofs.LiveRows.{no_message_refused}
use Rattle.step_lent.specs.Lent.{world}

-- a step whose answer has the number 4 changes neither the tables nor the lent records
pub refused_same : (s : Setup) (w : World) (x : Step) → answer_number (answer_of s w x) ≡ 4 → stepped s w x ≡ w
refused_same s w x e = ⊎_elim (λ a. not_both (eq-eqb _ 4 e) (accepted_not_refused s w x a)) (refused_keeps s w x) (true_or_false (accepts s w x))

-- if a row below the list's length is not a message, every step is refused with 1
pub no_message : (s : Setup) (w x : List ℕ) (l : List Copy) (k : List Request) (y : Step) (i : ℕ) → i < (tables_of w x).queue.len
    → message_there w x i ≡ false → answer_of s (world w x l k) y ≡ Refused 1
no_message s w x l k y i h n =
    let e = no_message_refused s w x i h n (records_sound s l k) (request_of s (world w x l k) y) y in
    refused_answer s (world w x l k) y (rw e) ∙ ap Refused e
