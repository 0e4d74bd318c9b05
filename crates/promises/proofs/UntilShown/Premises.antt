-- 02, A1: the premises of the theorem hold in each of its cases, and each is needed: there is a state that a run reaches, in which the others hold and the
-- read is not shown.
-- Letters: ys steps, w world, k how often the client asked, r its request, m a message.
use Rattle.std.specs.Prelude.{ℕ, zero, suc, ◌+◌, ◌<◌, Bool, true, false, List, [], ◌∷◌, ◌++◌, ◌≡◌}
use Rattle.std.proofs.Common.{arith, ap, ◌∙◌}
use Rattle.std.proofs.Math.Path.{refl}
use Rattle.std.proofs.Math.Seq.{set-get_or}
use borrow.Author.Tests.{lt-ltb}
use Rattle.laws.specs.Lists.{remove_at}
use Rattle.laws.specs.Loop.{all_from}
use Rattle.protocol.specs.declared.message.Message.{Message}
use Rattle.protocol.specs.declared.records.Request.{Request}
use Rattle.protocol.specs.declared.step.Answer.TheVariants.{Shown, AskFirst}
use Rattle.protocol.specs.declared.step.Step.{Step}
use Rattle.protocol.specs.declared.tables.Tables.{Tables}
use Rattle.protocol.specs.Setup.{in_range}
use Rattle.protocol.specs.Messages.{pushed, removed}
use Rattle.protocol.specs.Tables.{standing_at, fresh_request, fresh_tables}
use Rattle.protocol.specs.Server.{sent}
use Rattle.protocol.specs.Client.{renewal, numbered}
use Rattle.protocol.specs.Gate.{known, exists, timely, vacant, growable, refusal_of_step, refusal}
use Rattle.protocol.specs.Decide.{taken}
use Rattle.protocol.specs.World.{World, fresh_world, target, stepped, answer_of, ran}
use Rattle.protocol.specs.Ledger.{accepts}
use Rattle.protocol.specs.Soundness.StepCases.{copy_of, request_of}
use Rattle.protocol.proofs.Soundness.StepCases.{decision_accepted, lose_performed}
use Rattle.protocol.specs.Soundness.Question.{SoundWorld}
use Rattle.protocol.proofs.Soundness.Question.{sounds, stepped_sound}
use Rattle.protocol.specs.Safety.View.{copy_at}
use Rattle.protocol.proofs.Safety.Sweeping.{swept_keep}
use Rattle.protocol.proofs.Reached.{ran_on, run_sound}
use Rattle.promises.specs.UntilShown.Policy.{read, ask, policy, Quiet}
use Rattle.promises.specs.UntilShown.Steps.{asking}
use Rattle.promises.proofs.UntilShown.Steps.{ask_accepted, ask_leaves}
use Rattle.promises.specs.UntilShown.Phases.{standing}
use Rattle.promises.specs.UntilShown.Examples.{two, after, lose, Observed, observed, Works, Fails, restarted, marked, expired, parked, written_beside, invalidated_twice, resting, Table}
use Rattle.promises.proofs.UntilShown.Examples.{table}
use Rattle.promises.specs.UntilShown.Premises.{Late, asked_in_vain}

-- ---- the computed runs: what is seen of them, said of the tables
holds : (ys xs : List Step) (n y : ℕ) → Works ys n xs y → n + 1 < 4294967295 → Quiet two (after ys) 0 0
unfolding observed two
holds ys xs n y e l = record {
  client = omega arith;
  object = omega arith;
  empty = ap (λ (x : Observed). x.under_way) e;
  vacant = λ k h q. vacant k h;
  unnoted = ap (λ (x : Observed). x.notes) e;
  numbers = let f = ap (λ (x : Observed). x.next) e in omega arith;
}
  where
    vacant : (k : ℕ) → k < 2 → standing_at (after ys).tables k ≡ false
    vacant zero h = ap (λ (x : Observed). x.standing) e
    vacant (suc zero) h = ap (λ (x : Observed). x.standing_beside) e
    vacant (suc (suc k)) h = absurd (omega arith)

-- the premises hold in each of the four cases
pub quiet_cases : Quiet two (after []) 0 0 × Quiet two (after restarted) 0 0 × Quiet two (after marked) 0 0 × Quiet two (after expired) 0 0
unfolding Table
quiet_cases =
    (holds [] _ 1 0 table.0 (omega arith), holds restarted _ 3 0 table.1 (omega arith), holds marked _ 3 7 table.2 (omega arith), holds expired _ 3 0 table.3 (omega arith))

late_by : (ys xs : List Step) (w : World) (messages notes n : ℕ) (beside : Bool) → after ys ≡ w → Fails w messages beside notes n xs → Late ys messages beside notes n
unfolding observed
late_by ys xs w messages notes n beside e f = record {
  under_way = rw e (ap (λ (x : Observed). x.under_way) f);
  vacant = rw e (ap (λ (x : Observed). x.standing) f);
  written = rw e (ap (λ (x : Observed). x.standing_beside) f);
  noted = rw e (ap (λ (x : Observed). x.notes) f);
  number = rw e (ap (λ (x : Observed). x.next) f);
  late = λ h. never (h 9 (omega arith)).shown;
}
  where
    not_shown : answer_of two (ran two (fresh_world two) (ys ++ policy two 0 0 9 true (after ys))) (read 0 0) ≡ AskFirst
    not_shown = rw (ran_on two (fresh_world two) ys (policy two 0 0 9 true (after ys)), e) (ap (λ (x : Observed). x.afterwards) f)

    never : {y : ℕ} → answer_of two (ran two (fresh_world two) (ys ++ policy two 0 0 9 true (after ys))) (read 0 0) ≡ Shown y → ⊥
    never h = let a = not_shown in let z : ◌≡◌ {A = ℕ} 0 1 = cc in omega arith

-- ---- "no write standing in the volume", and not on the object alone
pub write_matters : Late written_beside 0 true 0 3
unfolding Table
write_matters = late_by written_beside _ _ 0 0 3 true refl table.4

-- ---- "an empty message list"
pub message_matters : Late invalidated_twice 1 false 0 3
unfolding Table
message_matters = late_by invalidated_twice _ _ 1 0 3 false refl table.5

-- ---- no notes in the volume
pub notes_matter : Late parked 0 false 1 3
unfolding Table
notes_matter = late_by parked _ _ 0 1 3 false refl table.7

-- ---- "two request numbers left": the client asks again and again, and each RENEW is lost
-- a message that is sent and lost leaves fresh tables
sent_and_lost : (m : Message) → taken (sent fresh_tables m) 0 ≡ fresh_tables
unfolding fresh_tables pushed removed remove_at
sent_and_lost m = refl

module _ (w : World) (k : SoundWorld two w) (h : 0 < w.tables.queue.len) where
  lose_accepted : accepts two w lose ≡ true
  unfolding two in_range all_from refusal refusal_of_step known exists timely vacant growable target
  lose_accepted = rw (sounds two w k refl, lt-ltb 0 _ h)

  lose_leaves : stepped two w lose ≡ record { tables = taken w.tables 0; copies = w.copies; requests = w.requests }
  unfolding stepped
  lose_leaves =
      rw (decision_accepted two w lose lose_accepted, lose_performed two w.tables (copy_of two w lose) (request_of two w lose) lose, set-get_or w.copies, set-get_or w.requests, swept_keep two)

in_range_law : in_range two ≡ true
unfolding two in_range all_from
in_range_law = refl

under_way_law : (m : Message) → (sent fresh_tables m).queue.len ≡ 1
unfolding fresh_tables pushed
under_way_law m = refl

-- one ask in vain takes a number, and changes nothing else
one_taken : (r : Request) → SoundWorld two (resting r) → r.next < 4294967295 → ran two (resting r) (ask 0 0 ∷ lose ∷ []) ≡ resting (numbered r 0)
unfolding ran two
one_taken r k l =
    let a = ask_accepted two in_range_law (resting r) k 0 0 (omega arith) (omega arith) l in
    let e = ask_leaves two in_range_law (resting r) k 0 0 (omega arith) (omega arith) a in
    let m = renewal two fresh_tables (copy_at two (fresh_world two).copies 0 0) r 0 0 in
    let f = lose_leaves (asking two (resting r) 0 0) (rw e at (stepped_sound two (resting r) (ask 0 0) k)) (omega (arith, under_way_law m)) in
    ap (λ (w : World). stepped two w lose) e ∙ f ∙ ap (λ (t : Tables). record { tables = t; copies = (fresh_world two).copies; requests = numbered r 0 ∷ [] }) (sent_and_lost m)

unfoldable request_after : ℕ → Request
request_after zero = fresh_request
request_after (suc k) = numbered (request_after k) 0

next_after : (k : ℕ) → (request_after k).next ≡ k + 1
unfolding request_after
next_after zero = refl
next_after (suc k) = let h = next_after k in omega arith

numbers_taken : (k : ℕ) → k < 4294967295 → after (asked_in_vain k) ≡ resting (request_after k)
unfolding ran asked_in_vain request_after two
numbers_taken zero l = refl
numbers_taken (suc k) l =
    let e = numbers_taken k (omega arith) in
    ran_on two (fresh_world two) (asked_in_vain k) (ask 0 0 ∷ lose ∷ [])
    ∙ ap (λ (w : World). ran two w (ask 0 0 ∷ lose ∷ [])) e
    ∙ one_taken (request_after k) (rw e at (run_sound two in_range_law (asked_in_vain k))) (omega (arith, next_after k))

last_request : (k : ℕ) → k ≡ 4294967293 → request_after k ≡ standing 4294967293 0
unfolding request_after
last_request zero e = absurd (omega arith)
last_request (suc k) e =
    let h : (request_after k).next ≡ 4294967293 = omega (arith, next_after k) in
    ap (λ (n : ℕ). standing n 0) h

-- one number is left, 4,294,967,294
pub numbers_matter : (k : ℕ) → k ≡ 4294967293 → Late (asked_in_vain k) 0 false 0 4294967294
unfolding Table
numbers_matter k e = late_by (asked_in_vain k) _ _ 0 0 4294967294 false (numbers_taken k (omega arith) ∙ ap resting (last_request k e)) table.6
