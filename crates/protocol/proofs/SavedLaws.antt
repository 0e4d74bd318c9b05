-- A machine's step of 01's kinds is the step of its present state; a save or a return needs no other question than 1 and 11.
-- Letters: s setup, w world, q a machine, u what is saved under a name, n a name, x a step, a an answer.
use Rattle.std.specs.Prelude.{ℕ, Bool, ◌&&◌, ◌||◌, ◌⊎◌, ◌≡◌, eqb}
use Rattle.std.proofs.Common.{arith, inl, inr, sym, ◌∙◌, eqb-true, eq-eqb}
use Rattle.std.proofs.Math.Bool.{true, false, cond}
use mathlib.Core.List.{List, [], ◌∷◌}
use Rattle.std.proofs.Math.Logic.{⊎_elim}
use Rattle.std.proofs.Math.Path.{refl, ap}
use Rattle.laws.specs.Choice.{cond_keeps, true_or_false, or_true, or_false, not_both}
use Rattle.laws.specs.Loop.{all_of}
use Rattle.laws.specs.Lists.{All}
use Rattle.laws.specs.Line.{Saved, never, state, Kept, saved_under, save, back, idle, follow, OfSaved, each_start, each_under, Keeps, each_follow}
use Rattle.protocol.specs.declared.setup.Setup.{Setup}
use Rattle.protocol.specs.declared.step.Answer.{Answer}
use Rattle.protocol.specs.declared.step.Answer.TheVariants.{Done, Refused}
use Rattle.protocol.specs.declared.step.Step.{Step}
use Rattle.protocol.specs.Setup.{in_range}
use Rattle.protocol.specs.Sound.{sound}
use Rattle.protocol.specs.Answers.{is_refused}
use Rattle.protocol.specs.Gate.{known, exists, timely, vacant, growable, or_refuse, refusal_of_step, refusal}
use Rattle.protocol.proofs.Gate.{asked}
use Rattle.protocol.specs.World.{World, fresh_world, stepped, answer_of, ran, answers}
use Rattle.protocol.specs.Ledger.{accepts}
use Rattle.protocol.specs.Saved.{Machine, names, is_save, is_return, uses_name, world_sound, sound_under, saved_sound, known_kind, named, request_for, refusal_in, answer_to, saving, returning, stepping, accepted_move, moved, moved_by, answers_to, fresh_machine}
use Rattle.protocol.specs.Line.{act_of}
use Rattle.protocol.specs.Soundness.StepCases.{records_of}
use Rattle.protocol.proofs.Soundness.StepCases.{refused_answer, refused_keeps}
use Rattle.protocol.proofs.Soundness.Answered.{accepted_not_refused}
use Rattle.protocol.specs.Soundness.Question.{SoundWorld, RefusedOne}
use Rattle.protocol.proofs.Soundness.Question.{stepped_sound, fresh_sound, sounds, number_of, never_one}
use Rattle.protocol.specs.SavedLaws.{SoundMachine, Plain}

-- ---- steps of 01's kinds
pub or_yes_right : (a b : Bool) → (a || b) ≡ true → a ≡ false → b ≡ true
or_yes_right a b h e = rw e at h

-- question 1 of the present state and of the saved ones, apart
apart : (a b c : Bool) (n : ℕ) → or_refuse (a && b) 1 (or_refuse (c || false) 2 n) ≡ or_refuse b 1 (or_refuse a 1 (or_refuse c 2 n))
apart true true true n = refl
apart true true false n = refl
apart true false c n = refl
apart false true c n = refl
apart false false c n = refl

module _ (s : Setup) (q : Machine) (x : Step) (h : uses_name x ≡ false) where
  -- such a step is asked what it was asked before, once the saved states are sound
  pub ordinary_refusal : refusal_in s q x ≡ or_refuse (saved_sound s q) 1 (refusal s q.now.tables (records_of s q.now) (request_for s q.now x) x)
  unfolding refusal_in refusal refusal_of_step known_kind named
  ordinary_refusal = rw h (apart (world_sound s q.now) (saved_sound s q) (known x) _)

  module _ (k : saved_sound s q ≡ true) where
    as_before : refusal_in s q x ≡ refusal s q.now.tables (records_of s q.now) (request_for s q.now x) x
    as_before = rw k at ordinary_refusal

    pub ordinary_answer : answer_to s q x ≡ answer_of s q.now x
    unfolding answer_to
    ordinary_answer = rw (as_before, h) (pick (true_or_false (accepts s q.now x)))
      where
        pick : (accepts s q.now x ≡ true) ⊎ (accepts s q.now x ≡ false)
            → cond (accepts s q.now x) (answer_of s q.now x) (Refused (refusal s q.now.tables (records_of s q.now) (request_for s q.now x) x))
            ≡ answer_of s q.now x
        pick (inl e) = rw e
        pick (inr e) = rw e (sym (refused_answer s q.now x e))

    pub ordinary_move : moved s q x ≡ stepping s q x
    unfolding moved
    ordinary_move = rw (as_before, (or_false (is_save x) (is_return x) h).0, (or_false (is_save x) (is_return x) h).1) (pick (true_or_false (accepts s q.now x)))
      where
        pick : (accepts s q.now x ≡ true) ⊎ (accepts s q.now x ≡ false) → cond (accepts s q.now x) (stepping s q x) q ≡ stepping s q x
        pick (inl e) = rw e
        pick (inr e) = rw e (sym (ap (λ (w : World). record { now = w; saved = q.saved }) (refused_keeps s q.now x e)))

-- ---- a save or a return: on any machine, questions 1 and 11 decide
module _ (s : Setup) (q : Machine) (x : Step) (h : uses_name x ≡ true) where
  -- questions 3 to 6 ask nothing of it
  pub name_refusal : refusal_in s q x ≡ or_refuse (world_sound s q.now && saved_sound s q) 1 (or_refuse (named q x) 11 0)
  unfolding refusal_in known_kind known exists timely vacant growable
  name_refusal = ⊎_elim (λ e. rw (eqb-true x.kind 10 e)) (λ e. rw (eqb-true x.kind 11 e)) (or_true (is_save x) (is_return x) h)

  -- the present state alone does not know its kind
  pub name_unknown : refusal s q.now.tables (records_of s q.now) (request_for s q.now x) x ≡ or_refuse (world_sound s q.now) 1 2
  unfolding refusal refusal_of_step known
  name_unknown = ⊎_elim (λ e. rw (eqb-true x.kind 10 e)) (λ e. rw (eqb-true x.kind 11 e)) (or_true (is_save x) (is_return x) h)

  pub name_answer : answer_to s q x ≡ cond (world_sound s q.now && saved_sound s q) (cond (named q x) Done (Refused 11)) (Refused 1)
  unfolding answer_to
  name_answer = rw (name_refusal, h) (each (world_sound s q.now && saved_sound s q) (named q x))
    where
      each : (a b : Bool) → cond (eqb (or_refuse a 1 (or_refuse b 11 0)) 0) Done (Refused (or_refuse a 1 (or_refuse b 11 0))) ≡ cond a (cond b Done (Refused 11)) (Refused 1)
      each true true = refl
      each true false = refl
      each false b = refl

  pub name_move : moved s q x ≡ cond (world_sound s q.now && saved_sound s q && named q x) (cond (is_save x) (saving q x.place) (returning q x.place)) q
  unfolding moved
  name_move = rw name_refusal (each (world_sound s q.now && saved_sound s q) (named q x) ∙ ap (λ (p : Machine). cond (world_sound s q.now && saved_sound s q && named q x) p q) which)
    where
      which : accepted_move s q x ≡ cond (is_save x) (saving q x.place) (returning q x.place)
      which = ⊎_elim (λ e. rw e) (λ e. rw (e, or_yes_right (is_save x) (is_return x) h e)) (true_or_false (is_save x))

      each : (a b : Bool) → cond (eqb (or_refuse a 1 (or_refuse b 11 0)) 0) (accepted_move s q x) q ≡ cond (a && b) (accepted_move s q x) q
      each true true = refl
      each true false = refl
      each false b = refl

-- ---- the machine follows the acts that its answers tell
module _ {Y : Type 0} (s : Setup) (f : World → Y → World) (q : Machine) (x : Step) (y : Y) (same : stepped s q.now x ≡ f q.now y) where
  by_step : saved_sound s q ≡ true → uses_name x ≡ false → moved s q x ≡ follow f q (act_of y x (answer_to s q x))
  by_step k h = rw h (ordinary_move s q x h k ∙ ap (λ (w : World). record { now = w; saved = q.saved }) same)

  by_name : uses_name x ≡ true → moved s q x ≡ follow f q (act_of y x (answer_to s q x))
  unfolding moved answer_to
  by_name h = rw h (pick (true_or_false (eqb (refusal_in s q x) 0)))
    where
      which : (is_save x ≡ true) ⊎ (is_save x ≡ false) → accepted_move s q x ≡ follow f q (cond (is_save x) (save x.place) (back x.place))
      which (inl e) = rw e
      which (inr e) = rw (e, or_yes_right (is_save x) (is_return x) h e)

      pick : (eqb (refusal_in s q x) 0 ≡ true) ⊎ (eqb (refusal_in s q x) 0 ≡ false)
          → cond (eqb (refusal_in s q x) 0) (accepted_move s q x) q
          ≡ follow f q (cond (is_refused (cond (eqb (refusal_in s q x) 0) Done (Refused (refusal_in s q x)))) idle (cond (is_save x) (save x.place) (back x.place)))
      pick (inl e) = rw e (which (true_or_false (is_save x)))
      pick (inr e) = rw e

  pub moved_follows : saved_sound s q ≡ true → moved s q x ≡ follow f q (act_of y x (answer_to s q x))
  moved_follows k = ⊎_elim by_name (by_step k) (true_or_false (uses_name x))

-- "every lent table and buffer is unchanged", the saved states included
pub refused_moves_nothing : (s : Setup) (q : Machine) (x : Step) → is_refused (answer_to s q x) ≡ true → moved s q x ≡ q
unfolding moved answer_to
refused_moves_nothing s q x h = pick (true_or_false (eqb (refusal_in s q x) 0)) (true_or_false (uses_name x))
  where
    accepting : eqb (refusal_in s q x) 0 ≡ true → uses_name x ≡ false → accepts s q.now x ≡ true
    accepting z u = eq-eqb _ 0 (asked (saved_sound s q) 0 _ (sym (ordinary_refusal s q x u) ∙ eqb-true _ 0 z)).1

    pick : (eqb (refusal_in s q x) 0 ≡ true) ⊎ (eqb (refusal_in s q x) 0 ≡ false) → (uses_name x ≡ true) ⊎ (uses_name x ≡ false)
        → cond (eqb (refusal_in s q x) 0) (accepted_move s q x) q ≡ q
    pick (inl z) (inl u) = not_both (rw (z, u) at h) refl
    pick (inl z) (inr u) = not_both (rw (z, u) at h) (accepted_not_refused s q.now x (accepting z u))
    pick (inr z) u = rw z

-- only a step of 01's kinds has to keep what holds of every state
pub act_keeps : {A Y : Type 0} (P : A → Type 0) (f : A → Y → A) (k : Kept A) (y : Y) (x : Step) (a : Answer) → (uses_name x ≡ false → P k.now → P (f k.now y))
    → Keeps P f k (act_of y x a)
act_keeps P f k y x a p =
    cond_keeps (Keeps P f k) (uses_name x) (λ _.
    cond_keeps (Keeps P f k) (is_refused a) (λ _. tt) (λ _.
    cond_keeps (Keeps P f k) (is_save x) (λ _. tt) (λ _. tt))) p

-- ---- a machine whose states are all sound
module _ (s : Setup) (i : in_range s ≡ true) where
  pub saved_sounds : (q : Machine) → SoundMachine s q → saved_sound s q ≡ true
  unfolding saved_sound
  saved_sounds q h = all_of _ names (λ n p. under (saved_under q n) (each_under (SoundWorld s) q n h))
    where
      under : (u : Saved World) → OfSaved (SoundWorld s) u → sound_under s u ≡ true
      under never p = refl
      under (state w) p = sounds s w p i

  pub moved_sound : (q : Machine) (x : Step) → SoundMachine s q → SoundMachine s (moved s q x)
  moved_sound q x h =
      rw (moved_follows s (stepped s) q x x refl (saved_sounds q h))
      (each_follow (SoundWorld s) (stepped s) q (act_of x x (answer_to s q x)) (act_keeps (SoundWorld s) (stepped s) q x x (answer_to s q x) (λ e. stepped_sound s q.now x)) h)

  pub fresh_machine_sound : SoundMachine s (fresh_machine s)
  fresh_machine_sound = each_start (SoundWorld s) names (fresh_world s) (fresh_sound s i)

  pub machine_sound_law : (xs : List Step) (q : Machine) → SoundMachine s q → SoundMachine s (moved_by s q xs)
  unfolding moved_by
  machine_sound_law [] q h = h
  machine_sound_law (x ∷ xs) q h = machine_sound_law xs (moved s q x) (moved_sound q x h)

-- ---- question 1
module _ (s : Setup) (q : Machine) (x : Step) where
  name_never_one : world_sound s q.now ≡ true → saved_sound s q ≡ true → uses_name x ≡ true → RefusedOne (answer_to s q x) → ⊥
  name_never_one h k u e = pick (true_or_false (named q x))
    where
      told : cond (named q x) Done (Refused 11) ≡ Refused 1
      told = rw (h, k) at (sym (name_answer s q x u) ∙ e)

      pick : (named q x ≡ true) ⊎ (named q x ≡ false) → ⊥
      pick (inl z) = not_both refl (sym (ap is_refused (rw z at told)))
      pick (inr z) = let n = number_of 11 1 (rw z at told) in omega arith

  -- a machine of sound states is not refused with 1
  pub never_one_of : in_range s ≡ true → SoundMachine s q → RefusedOne (answer_to s q x) → ⊥
  never_one_of i h e =
      ⊎_elim (λ u. name_never_one (sounds s q.now h.now i) (saved_sounds s i q h) u e)
      (λ u. never_one s q.now x i h.now (sym (ordinary_answer s q x u (saved_sounds s i q h)) ∙ e))
      (true_or_false (uses_name x))

  always_one_of : in_range s ≡ false → RefusedOne (answer_to s q x)
  unfolding answer_to refusal_in sound
  always_one_of i = rw i

pub one_never : (s : Setup) → in_range s ≡ true → (xs : List Step) (q : Machine) → SoundMachine s q → All (λ (a : Answer). RefusedOne a → ⊥) (answers_to s q xs)
unfolding All answers_to
one_never s i [] q h = tt
one_never s i (x ∷ xs) q h = (never_one_of s q x i h, one_never s i xs (moved s q x) (moved_sound s i q x h))

pub one_always : (s : Setup) → in_range s ≡ false → (xs : List Step) (q : Machine) → All RefusedOne (answers_to s q xs)
unfolding All answers_to
one_always s i [] q = tt
one_always s i (x ∷ xs) q = (always_one_of s q x i, one_always s i xs (moved s q x))

-- ---- steps of 01's kinds alone
-- saved states are not touched, and all is as without them
pub plain_run : (s : Setup) (xs : List Step) (q : Machine) → saved_sound s q ≡ true → Plain xs
    → (moved_by s q xs ≡ record { now = ran s q.now xs; saved = q.saved }) × (answers_to s q xs ≡ answers s q.now xs)
unfolding All moved_by answers_to ran answers saved_sound
plain_run s [] q k p = (refl, refl)
plain_run s (x ∷ xs) q k p =
    let rest = plain_run s xs (stepping s q x) k p.1 in
    (rw (ordinary_move s q x p.0 k) rest.0, rw (ordinary_move s q x p.0 k, ordinary_answer s q x p.0 k) (ap (◌∷◌ (answer_of s q.now x)) rest.1))
