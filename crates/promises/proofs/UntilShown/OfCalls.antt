-- 02, A1, of a program that calls the public step, saves and returns included: how many calls until a client's read is shown.
-- Letters: ys are the steps of the calls from fresh tables on, which left q; xs are the policy's, which were answered rs and left r; a is the answer to the
-- read called after them, which left p; d client, o object, n how many steps the policy may take.
use Rattle.std.specs.Prelude.{ℕ, zero, suc, ◌≤◌, Bool, true, false, List, ◌++◌, ◌≡◌, refl, eqb}
use Rattle.std.proofs.Common.{sym, ap, ◌∙◌}
use Rattle.laws.specs.Choice.{cond_keeps}
use Rattle.laws.specs.Lists.{All}
use Rattle.protocol.specs.declared.setup.Setup.{Setup}
use Rattle.protocol.specs.declared.step.Answer.{Answer}
use Rattle.protocol.specs.declared.step.Step.{Step}
use Rattle.protocol.specs.Setup.{in_range}
use Rattle.protocol.specs.Messages.{message_at}
use Rattle.protocol.specs.World.{World, fresh_world, stepped, answer_of, ran, answers}
use Rattle.protocol.proofs.Reached.{ran_on}
use Rattle.protocol.specs.Saved.{Machine, fresh_machine, saved_sound, answer_to, moved_by, answers_to, Called}
use Rattle.protocol.specs.Line.{present_line, steps_in}
use Rattle.protocol.specs.SavedLaws.{Plain}
use Rattle.protocol.proofs.SavedLaws.{ordinary_answer, saved_sounds, machine_sound_law, fresh_machine_sound, plain_run}
use Rattle.promises.specs.UntilShown.Policy.{read, ask, deliver, is_dropped, policy, Quiet, steps_needed, ShownAfter}
use Rattle.promises.proofs.UntilShown.InTime.{shown_in_time}
use Rattle.promises.specs.Calls.{Calls}
use Rattle.promises.proofs.Calls.{calls_answer, calls_leave, reached_by_line}
use Rattle.promises.specs.UntilShown.OfCalls.{ShownByCalls}

-- the policy neither saves nor returns
policy_plain : (s : Setup) (d o n : ℕ) (due : Bool) (w : World) → Plain (policy s d o n due w)
unfolding policy All
policy_plain s d o zero due w = tt
policy_plain s d o (suc n) due w =
    cond_keeps Plain due (λ _. (refl, policy_plain s d o n false (stepped s w (ask d o)))) (λ _.
    cond_keeps Plain (eqb w.tables.queue.len 0) (λ _. tt) (λ _. (refl, policy_plain s d o n (is_dropped (message_at w.tables.queue 0).kind) (stepped s w deliver))))

-- a step that touches no saved state leaves them as sound as they were
same_saved : (s : Setup) (q : Machine) (w : World) → saved_sound s q ≡ true → saved_sound s (record { now = w; saved = q.saved }) ≡ true
unfolding saved_sound
same_saved s q w h = h

pub calls_shown_in_time : (s : Setup) → in_range s ≡ true → (ys : List Step) {qs : List Answer} {q : Machine} → Calls s (fresh_machine s) ys qs q
    → (d o : ℕ) → Quiet s q.now d o → (n : ℕ) → 7 ≤ n → {rs : List Answer} {r : Machine} → Calls s q (policy s d o n true q.now) rs r
    → (a : Answer) {p : Machine} → Called s r (read d o) a p → ShownByCalls s ys (policy s d o n true q.now) rs q r d o a
calls_shown_in_time s i ys {qs} {q} c d o h n l {rs} {r} k a e = record {
  many = f.many;
  accepted = rw (calls_answer s k, plain.1, reached) g.accepted;
  empty = ap (λ (w : World). w.tables.queue.len) left ∙ f.empty;
  shown = e.answers ∙ ordinary ∙ ap (λ (w : World). answer_of s w (read d o)) left ∙ f.shown;
}
  where
    line : List Step
    line = steps_in (present_line s ys)

    xs : List Step
    xs = policy s d o n true q.now

    reached : q.now ≡ ran s (fresh_world s) line
    reached = reached_by_line s i ys qs q c

    g : ShownAfter s line d o (steps_needed s (ran s (fresh_world s) line) d o) (policy s d o n true (ran s (fresh_world s) line))
    g = shown_in_time s i line d o (rw reached at h) n l

    f : ShownAfter s line d o (steps_needed s q.now d o) xs
    f = rw reached g

    sound : saved_sound s q ≡ true
    sound = rw (calls_leave s c) (saved_sounds s i _ (machine_sound_law s i ys (fresh_machine s) (fresh_machine_sound s i)))

    plain : (moved_by s q xs ≡ record { now = ran s q.now xs; saved = q.saved }) × (answers_to s q xs ≡ answers s q.now xs)
    plain = plain_run s xs q sound (policy_plain s d o n true q.now)

    after : r ≡ record { now = ran s q.now xs; saved = q.saved }
    after = calls_leave s k ∙ plain.0

    left : r.now ≡ ran s (fresh_world s) (line ++ xs)
    left = ap (λ (m : Machine). m.now) after ∙ ap (λ (w : World). ran s w xs) reached ∙ sym (ran_on s (fresh_world s) line xs)

    ordinary : answer_to s r (read d o) ≡ answer_of s r.now (read d o)
    ordinary = ordinary_answer s r (read d o) refl (rw after (same_saved s q _ sound))
