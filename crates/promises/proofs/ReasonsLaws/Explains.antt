-- 02, A8: "Prove that the named event occurred and that no later event restored the copy; for 1, that there was none; for 5 and 6, that the named lease was
-- dead."
-- Letters: s setup, l a line, u the state that it leads to, w an earlier one, d client, o object, k the last event, xs the steps of the run, n the number of the
-- chosen one, x the chosen one, q the machine that it meets.
use Rattle.std.specs.Prelude.{ℕ, zero, suc, ◌-◌, ◌<◌, ◌≤◌, Bool, true, false, ◌&&◌, List, [], ◌∷◌, ◌⊎◌, ◌≡◌, refl, leb, ltb, length, get_or, take}
use Rattle.std.specs.Prelude.{Option, None, Some}
use Rattle.std.proofs.Common.{arith, inl, inr, ⊎_elim, sym, ap, ◌∙◌, length-take, get_or-take}
use borrow.Author.Tests.{eqb-true, ne_eqb, leb-true, leb-false, ltb-true, lt-ltb}
use Rattle.laws.specs.Choice.{cond_keeps, true_or_false, and-true, both_true, not_both}
use Rattle.laws.specs.Lists.{all_part}
use Rattle.protocol.specs.declared.records.Copy.{Copy}
use Rattle.protocol.specs.declared.setup.Setup.{Setup}
use Rattle.protocol.specs.declared.step.Answer.{Answer}
use Rattle.protocol.specs.declared.step.Decision.{Decision}
use Rattle.protocol.specs.declared.step.Step.{Step}
use Rattle.protocol.specs.Setup.{in_range}
use Rattle.protocol.specs.Leases.{client_alive, client_clock}
use Rattle.protocol.specs.Client.{showable}
use Rattle.protocol.specs.Gate.{is_read}
use Rattle.protocol.specs.Decide.{read_decided}
use Rattle.protocol.specs.World.{World, target, stepped, answer_of}
use Rattle.protocol.specs.Ledger.{accepts}
use Rattle.protocol.specs.Soundness.StepCases.{Accepted, copy_of, request_of, records_of}
use Rattle.protocol.proofs.Soundness.StepCases.{accepted, accepted_answer_law, refused_answer, read_performed, client_exists, object_exists}
use Rattle.protocol.specs.Soundness.Question.{SoundWorld}
use Rattle.protocol.proofs.Soundness.Question.{stepped_sound}
use Rattle.protocol.specs.Safety.View.{copy_at}
use Rattle.protocol.proofs.Reached.{run_sound}
use Rattle.protocol.specs.Saved.{Machine, fresh_machine, saved_sound, answer_to, moved, moved_by, answers_to}
use Rattle.protocol.specs.Line.{Entry, Listed, steps_in, ran_by}
use Rattle.protocol.proofs.Along.{line_listed}
use Rattle.protocol.proofs.SavedLaws.{ordinary_answer, saved_sounds, machine_sound_law, fresh_machine_sound}
use Rattle.protocol.proofs.Demand3.{demand_3_along}
use Rattle.promises.specs.declared.reasons.Event.{Event}
use Rattle.promises.specs.declared.reasons.Event.TheVariants.{Granted, Erased}
use Rattle.promises.specs.declared.reasons.Last.{Last}
use Rattle.promises.specs.declared.reasons.Why.{Why}
use Rattle.promises.specs.declared.reasons.Why.TheVariants.{VolumeLeaseRanOut, ObjectLeaseRanOut}
use Rattle.promises.specs.Reasons.Numbers.{number_of}
use Rattle.promises.specs.Reasons.Events.{grants, invalidates, offers, restarts, erases, cause, last_of}
use Rattle.promises.specs.Reasons.Reason.{no_step, chosen, earlier, met_by, line_before, is_ask_first, asks_first, view_until, copy_until, why_by, reason_by, reason_of, Happened, Missing}
use Rattle.promises.specs.Reasons.Reason.{Holding, Explains, Explained}
use Rattle.promises.proofs.ReasonsLaws.Worth.{at_worth, run_worth}
use Rattle.promises.proofs.ReasonsLaws.Fates.{fills}
use Rattle.promises.specs.Reasons.Told.{AsBefore, How}
use Rattle.promises.proofs.ReasonsLaws.Told.{ran_parts, Erasing, TellsOf, Tells, last_tells, vanished_still, copy_in, uneventful_keeps, how}
use Rattle.promises.specs.Reasons.Explains.{Unshown}

-- ---- of two leases one is dead: the earlier one, if it is not the later
earlier_dead : (clock a b : ℕ) → (client_alive clock a && client_alive clock b) ≡ false → a ≤ b → client_alive clock a ≡ false
unfolding client_alive
earlier_dead clock a b h l =
    ⊎_elim (λ e. let p = ltb-true clock a e in not_both (both_true e (lt-ltb clock b (omega arith))) h) (λ e. e) (true_or_false (ltb clock a))

later_dead : (clock a b : ℕ) → (client_alive clock a && client_alive clock b) ≡ false → b ≤ a → client_alive clock b ≡ false
unfolding client_alive
later_dead clock a b h l =
    ⊎_elim (λ e. let p = ltb-true clock b e in not_both (both_true (lt-ltb clock a (omega arith)) e) h) (λ e. e) (true_or_false (ltb clock b))

-- ---- a read that meets the end of the line l
module _ (s : Setup) (i : in_range s ≡ true) (l : List Entry) (d o : ℕ) (hd : d < s.clients) (ho : o < s.objects) where
  abbrev u : World
  u = ran_by s l

  -- what is left of an event of the line
  module _ {n : ℕ} {P : World → Step → Type 0} (h : Happened s d o l n P) where
    met : World
    met = ran_by s h.older

    met_sound : SoundWorld s met
    unfolding met
    met_sound = run_sound s i (steps_in h.older)

    since_then : AsBefore (copy_in s d o hd ho (stepped s met h.event.step)) (copy_in s d o hd ho u)
    unfolding met
    since_then =
        rw (h.parts, ran_parts s d o h.older h.event h.newer)
        (uneventful_keeps s d o hd ho h.newer (stepped s met h.event.step) (stepped_sound s met h.event.step met_sound) h.since)

    told : {Q : World → Step → Type 0} → Q met h.event.step → Happened s d o l n Q
    unfolding met
    told q = record { older = h.older; event = h.event; newer = h.newer; parts = h.parts; number = h.number; occurred = q; since = h.since }

  module _ (why : Why) (n : ℕ) (h : Happened s d o l n (Erasing s d o why)) where
    way : How s d o (met h) h.event.step
    unfolding met
    way = how s d o hd ho (met h) h.event.step (met_sound h) h.occurred.ungranted h.occurred.erases

    by : (f : World → Step → Bool) → f (met h) h.event.step ≡ true → Happened s d o l n (Missing s d o u f)
    unfolding met erases
    by f p = told h (record { erases = h.occurred.erases; still = vanished_still _ _ _ (since_then h) h.occurred.erases; how = p })

    reason : why ≡ cause (met h) h.event.step
    unfolding met
    reason = h.occurred.reason

    above : 2 ≤ number_of why
    above = rw reason way.above

    below : number_of why ≤ 4
    below = rw reason way.below

    explains_erased : Explains s l u d o (record { why = why; step = n })
    explains_erased = record {
      some = omega (arith, above);
      within = omega (arith, below);
      never_granted = λ e. let p = rw e at above in absurd (omega arith);
      invalidated = λ e. by (λ w x. invalidates s w x d o) (way.two (sym reason ∙ e));
      dropped = λ e. by (λ w x. offers s w x d o) (way.three (sym reason ∙ e));
      restarted = λ e. by (λ w x. restarts s w x d) (way.four (sym reason ∙ e));
      volume_over = λ e. let p = rw e at below in absurd (omega arith);
      object_over = λ e. let p = rw e at below in absurd (omega arith);
    }

  module _ (unshown : showable s u.tables (copy_at s u.copies d o) d o ≡ false) where
    clock : ℕ
    clock = client_clock u.tables.clock d

    module _ (n : ℕ) (h : Happened s d o l n (λ w x. grants s w x d o ≡ true)) where
      version_held : 1 ≤ (copy_at s u.copies d o).version
      unfolding met
      version_held =
          let a = fills s (met h) h.event.step (met_sound h) d o hd ho (at_worth (met h).tables h.event.step.place (run_worth s i (steps_in h.older))) h.occurred in
          rw (since_then h).version a

      one_dead : (client_alive clock (view_until s u d o) && client_alive clock (copy_until s u d o)) ≡ false
      unfolding showable clock
      one_dead = rw (ne_eqb (copy_at s u.copies d o).version 0 (λ e. omega (arith, version_held))) at unshown

      event : Happened s d o l n (Holding s d o u)
      unfolding met
      event = told h (record { grants = h.occurred; held = λ e. omega (arith, version_held) })

      by_volume_law : view_until s u d o ≤ copy_until s u d o → Explains s l u d o (record { why = VolumeLeaseRanOut; step = n })
      unfolding clock
      by_volume_law le = record {
        some = omega arith;
        within = omega arith;
        never_granted = λ e. absurd (cc);
        invalidated = λ e. absurd (cc);
        dropped = λ e. absurd (cc);
        restarted = λ e. absurd (cc);
        volume_over = λ e. (event, earlier_dead clock (view_until s u d o) (copy_until s u d o) one_dead le, le);
        object_over = λ e. absurd (cc);
      }

      by_object_law : copy_until s u d o < view_until s u d o → Explains s l u d o (record { why = ObjectLeaseRanOut; step = n })
      unfolding clock
      by_object_law lt = record {
        some = omega arith;
        within = omega arith;
        never_granted = λ e. absurd (cc);
        invalidated = λ e. absurd (cc);
        dropped = λ e. absurd (cc);
        restarted = λ e. absurd (cc);
        volume_over = λ e. absurd (cc);
        object_over = λ e. (event, later_dead clock (view_until s u d o) (copy_until s u d o) one_dead (omega arith), lt);
      }

    by_event : (n : ℕ) (g : Event) → TellsOf s d o l n g → Explains s l u d o (record { why = why_by (view_until s u d o) (copy_until s u d o) g; step = n })
    by_event n Granted h =
        cond_keeps (λ (why : Why). Explains s l u d o (record { why = why; step = n })) (leb (view_until s u d o) (copy_until s u d o))
        (λ e. by_volume_law n h (leb-true _ _ e)) (λ e. by_object_law n h (leb-false _ _ e))
    by_event n (Erased why) h = explains_erased why n h

    by_last : (k : Option Last) → Tells s d o l k → Explains s l u d o (reason_by s u d o k)
    by_last None h = record {
      some = omega arith;
      within = omega arith;
      never_granted = λ e. (refl, h);
      invalidated = λ e. absurd (cc);
      dropped = λ e. absurd (cc);
      restarted = λ e. absurd (cc);
      volume_over = λ e. absurd (cc);
      object_over = λ e. absurd (cc);
    }
    by_last (Some k) h = by_event k.step k.event h

    line_explains : Explains s l u d o (reason_by s u d o (last_of s d o l))
    line_explains = by_last (last_of s d o l) (last_tells s d o l)

-- ---- a read answered "ask first": it was accepted, and its copy may not be shown
read_unshown : (s : Setup) (w : World) (x : Step) → x.kind ≡ 2 → is_ask_first (answer_of s w x) ≡ true → Unshown s w x
unfolding read_decided target
read_unshown s w x e h = ⊎_elim accepting (λ a. not_both (rw (refused_answer s w x a) at h) refl) (true_or_false (accepts s w x))
  where
    accepting : accepts s w x ≡ true → Unshown s w x
    accepting a = record { client = client_exists facts.passes (rw e); object = object_exists facts.passes (rw e); unshown = pick (true_or_false shows) }
      where
        facts : Accepted s w.tables (records_of s w) (request_of s w x) x
        facts = accepted s w x a

        shows : Bool
        shows = showable s w.tables (copy_at s w.copies x.client x.object) x.client x.object

        here : copy_of s w x ≡ copy_at s w.copies x.client x.object
        here = rw e

        decided : answer_of s w x ≡ (read_decided s w.tables (copy_at s w.copies x.client x.object) x.client x.object).outcome.answer
        decided =
            accepted_answer_law s w x a
            ∙ ap (λ (g : Decision). g.outcome.answer) (read_performed s w.tables (copy_of s w x) (request_of s w x) x e)
            ∙ ap (λ (c : Copy). (read_decided s w.tables c x.client x.object).outcome.answer) here

        pick : (shows ≡ true) ⊎ (shows ≡ false) → shows ≡ false
        pick (inl b) = not_both (rw b at (rw decided at h)) refl
        pick (inr b) = b

-- ---- the theorem
module _ (s : Setup) (i : in_range s ≡ true) (xs : List Step) (n : ℕ) where
  abbrev q : Machine
  q = moved_by s (fresh_machine s) (earlier xs n)

  abbrev x : Step
  x = chosen xs n

  answer_sound : saved_sound s q ≡ true
  answer_sound = saved_sounds s i q (machine_sound_law s i (earlier xs n) (fresh_machine s) (fresh_machine_sound s i))

  pub reading : asks_first s xs n ≡ true → Unshown s (met_by s xs n) x
  unfolding asks_first
  reading h =
      let a = and-true (is_read x) (is_ask_first (answer_to s q x)) (and-true (leb 1 n) _ h).1 in
      let e = eqb-true x.kind 2 a.0 in
      read_unshown s q.now x e (rw (ordinary_answer s q x (rw e) answer_sound) at a.1)

  -- the state that the read meets is the run of its line
  runs : met_by s xs n ≡ ran_by s (line_before s xs n)
  runs = (demand_3_along s i (earlier xs n)).present.runs

  reasoned : asks_first s xs n ≡ true
      → Explains s (line_before s xs n) (met_by s xs n) x.client x.object (reason_by s (met_by s xs n) x.client x.object (last_of s x.client x.object (line_before s xs n)))
  reasoned h =
      let r = reading h in
      rw runs (line_explains s i (line_before s xs n) x.client x.object r.client r.object (rw runs at r.unshown))

  pub explains : Explained s xs n (reason_of s xs n)
  unfolding reason_of
  explains = record { other = λ h. rw h refl; asked = λ h. rw h (reasoned h) }

-- ---- the answer to the chosen step is the one in the listing of all answers
answer_at : (s : Setup) (q : Machine) (xs : List Step) (k : ℕ) (b : Answer) → k < length xs → get_or (answers_to s q xs) k b ≡ answer_to s (moved_by s q (take k xs)) (get_or xs k no_step)
unfolding answers_to moved_by
answer_at s q [] k b h = absurd (omega arith)
answer_at s q (x ∷ xs) zero b h = refl
answer_at s q (x ∷ xs) (suc k) b h = answer_at s (moved s q x) xs k b (omega arith)

pub chosen_listed : (s : Setup) (xs : List Step) (n : ℕ) (b : Answer) → 1 ≤ n → n ≤ length xs
    → get_or (answers_to s (fresh_machine s) xs) (n - 1) b ≡ answer_to s (moved_by s (fresh_machine s) (earlier xs n)) (chosen xs n)
chosen_listed s xs n b h i = answer_at s (fresh_machine s) xs (n - 1) b (omega arith)

-- ---- "It also names that event's step": the number is its place in the list, before the chosen one
module _ (s : Setup) (xs : List Step) (n d o k : ℕ) {P : World → Step → Type 0} (h : Happened s d o (line_before s xs n) k P) where
  listed : Listed s (earlier xs n) h.event
  listed = all_part (Listed s (earlier xs n)) h.older h.event h.newer (rw h.parts at (line_listed s (earlier xs n)).now)

  pub named_step : (1 ≤ k) × (k < n) × (chosen xs k ≡ h.event.step)
  named_step =
      let some = length-take (n - 1) xs in (
        omega (arith, listed.first, h.number),
        omega (arith, listed.first, listed.last, h.number),
        rw (← h.number) (sym (get_or-take (n - 1) xs (h.event.number - 1) no_step (omega (arith, listed.first, listed.last))) ∙ listed.step no_step),
      )
