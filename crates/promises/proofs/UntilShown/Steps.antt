-- The steps of the policy, and the read after them: each is accepted, and what it leaves.
use Rattle.std.specs.Prelude.{ℕ, ◌<◌, true, ◌≡◌}
use Rattle.std.proofs.Common.{◌∙◌}
use Rattle.std.proofs.Math.Seq.{set-get_or}
use borrow.Author.Tests.{lt-ltb}
use Rattle.protocol.specs.declared.message.Kind.{Kind}
use Rattle.protocol.specs.declared.setup.Setup.{Setup}
use Rattle.protocol.specs.declared.step.Answer.TheVariants.{Shown}
use Rattle.protocol.specs.Setup.{in_range}
use Rattle.protocol.specs.Messages.{message_at}
use Rattle.protocol.specs.Client.{showable}
use Rattle.protocol.specs.Gate.{known, exists, timely, vacant, growable, refusal_of_step, refusal}
use Rattle.protocol.specs.Decide.{read_decided, ask_decided, deliver_decided}
use Rattle.protocol.specs.World.{World, target, stepped, answer_of}
use Rattle.protocol.specs.Ledger.{accepts}
use Rattle.protocol.specs.Soundness.StepCases.{copy_of, request_of}
use Rattle.protocol.proofs.Soundness.StepCases.{decision_accepted, accepted_answer_law, read_performed, ask_performed, deliver_performed}
use Rattle.protocol.specs.Soundness.Question.{SoundWorld}
use Rattle.protocol.proofs.Soundness.Question.{sounds}
use Rattle.protocol.specs.Safety.View.{copy_at, request_at}
use Rattle.protocol.specs.Safety.Invariant.{from}
use Rattle.protocol.proofs.Safety.Sweeping.{swept_keep}
use Rattle.promises.specs.UntilShown.Policy.{read, ask, deliver}
use Rattle.promises.specs.UntilShown.Steps.{asking, delivering}

module _ (s : Setup) (i : in_range s ≡ true) (w : World) (k : SoundWorld s w) where
  module _ (d o : ℕ) (hd : d < s.clients) (ho : o < s.objects) where
    pub ask_accepted : (request_at w.requests d).next < 4294967295 → accepts s w (ask d o) ≡ true
    unfolding refusal refusal_of_step known exists timely vacant growable target
    ask_accepted n = rw (sounds s w k i, lt-ltb d s.clients hd, lt-ltb o s.objects ho, lt-ltb _ 4294967295 n)

    pub ask_leaves : accepts s w (ask d o) ≡ true → stepped s w (ask d o) ≡ asking s w d o
    unfolding stepped ask_decided target
    ask_leaves a =
        rw (decision_accepted s w (ask d o) a, ask_performed s w.tables (copy_of s w (ask d o)) (request_of s w (ask d o)) (ask d o), set-get_or w.copies, swept_keep s)

    read_accepted : accepts s w (read d o) ≡ true
    unfolding refusal refusal_of_step known exists timely vacant growable target
    read_accepted = rw (sounds s w k i, lt-ltb d s.clients hd, lt-ltb o s.objects ho)

    pub read_shows : showable s w.tables (copy_at s w.copies d o) d o ≡ true → answer_of s w (read d o) ≡ Shown (copy_at s w.copies d o).value
    unfolding read_decided target
    read_shows e =
        accepted_answer_law s w (read d o) read_accepted
        ∙ rw (read_performed s w.tables (copy_of s w (read d o)) (request_of s w (read d o)) (read d o), e)

  pub deliver_accepted : 0 < w.tables.queue.len → accepts s w deliver ≡ true
  unfolding refusal refusal_of_step known exists timely vacant growable target
  deliver_accepted n = rw (sounds s w k i, lt-ltb 0 _ n)

  pub deliver_leaves : accepts s w deliver ≡ true → (d : ℕ) (g : Kind) → message_at w.tables.queue 0 ≡ from d g → stepped s w deliver ≡ delivering s w d g
  unfolding stepped deliver_decided target
  deliver_leaves a d g e = rw (decision_accepted s w deliver a, deliver_performed s w.tables (copy_of s w deliver) (request_of s w deliver) deliver, e)
