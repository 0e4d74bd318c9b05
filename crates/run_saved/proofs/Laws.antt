-- One lemma for each path through a step, on a machine whose states are all sound.
-- Letters: s setup, w words, x values, ws and xs the words and the values under each name, v, z, vs and zs the same afterwards, y a step, a its answer or
-- the act of a save or a return.
use Rattle.std.proofs.Common.{◌≡◌, sym, ◌∙◌, subst, ⊎_elim, ℕ, ◌<◌, true, false, cond, List, [], Some, Result, Ok, Err, ltb, get_or}
use Rattle.laws.specs.Choice.{cond_keeps, not_both, or_true}
use Rattle.laws.specs.Line.{never, state, saved_under}
use borrow.Author.Tests.{eqb-true, ltb-true}
use Rattle.protocol.specs.declared.refusal.Refusal.{Refusal}
use Rattle.protocol.specs.declared.refusal.Refusal.TheVariants.{Name}
use Rattle.protocol.specs.declared.setup.Setup.{Setup}
use Rattle.protocol.specs.declared.step.Answer.{Answer}
use Rattle.protocol.specs.declared.step.Answer.TheVariants.{Done, Refused}
use Rattle.protocol.specs.declared.step.Step.{Step}
use Rattle.protocol.specs.Refusals.{number_of}
use Rattle.protocol.specs.Setup.{in_range}
use Rattle.protocol.specs.World.{answer_of, stepped}
use Rattle.protocol.proofs.Soundness.Question.{sounds}
use Rattle.protocol.specs.Saved.{Machine, names, is_save, is_return, uses_name, named, saving, returning, Called}
use Rattle.protocol.specs.SavedLaws.{SoundMachine}
use Rattle.protocol.proofs.SavedLaws.{saved_sounds, ordinary_answer, ordinary_move, name_answer, name_move}
use Rattle.state_words.specs.View.{world_of}
use Rattle.state_words.specs.Saved.{is_saved, machine_of}
use Rattle.state_words.proofs.SavedLaws.{saved_at}
use Rattle.saved_states.specs.Stored.{saves_world, restores_world}
use Rattle.step_saved.specs.declared.plan.Act.{Act}
use Rattle.step_saved.specs.declared.plan.Act.TheVariants.{Save, Return}
use Rattle.step_saved.specs.Applied.{Applied}
use Rattle.step_saved.specs.Plan.{act_by_name}
use Rattle.run_saved.specs.ByName.{CalledByName}

module _ (w x : List ℕ) (ws xs : List (List ℕ)) (y : Step) where
  -- any other step is the present state's
  pub other : (s : Setup) → in_range s ≡ true → SoundMachine s (machine_of s w x ws xs) → uses_name y ≡ false
      → (a : Answer) (v z : List ℕ) → (a ≡ answer_of s (world_of s w x) y) × (world_of s v z ≡ stepped s (world_of s w x) y)
      → Called s (machine_of s w x ws xs) y a (machine_of s v z ws xs)
  other s i o u a v z e = record {
    answers = e.0 ∙ sym (ordinary_answer s q y u (saved_sounds s i q o));
    moves = rw e.1 (sym (ordinary_move s q y u (saved_sounds s i q o)));
  }
    where
      q : Machine
      q = machine_of s w x ws xs

  -- what a save or a return leaves, by its act; refused, it leaves all as it is
  abbrev pub Does : Result Act Refusal → Type 0
  Does (Ok a) = (v z : List ℕ) (vs zs : List (List ℕ)) → Applied (Some a) w x ws xs v z vs zs → CalledByName w x ws xs y Done v z vs zs
  Does (Err e) = CalledByName w x ws xs y (Refused (number_of e)) w x ws xs

  module _ (u : uses_name y ≡ true) where
    -- questions 1 and 11 decide, and the answer to 1 is never "no"
    module _ (s : Setup) (i : in_range s ≡ true) (o : SoundMachine s (machine_of s w x ws xs)) where
      abbrev before : Machine
      before = machine_of s w x ws xs

      accepted : named before y ≡ true → (p : Machine) → p ≡ cond (is_save y) (saving before y.place) (returning before y.place) → Called s before y Done p
      accepted n p e = record {
        answers = sym (name_answer s before y u ∙ rw (sounds s (world_of s w x) o.now i, saved_sounds s i before o, n));
        moves = e ∙ sym (name_move s before y u ∙ rw (sounds s (world_of s w x) o.now i, saved_sounds s i before o, n));
      }

      refused : named before y ≡ false → Called s before y (Refused 11) before
      refused n = record {
        answers = sym (name_answer s before y u ∙ rw (sounds s (world_of s w x) o.now i, saved_sounds s i before o, n));
        moves = sym (name_move s before y u ∙ rw (sounds s (world_of s w x) o.now i, saved_sounds s i before o, n));
      }

    above : ltb y.place names ≡ false → Does (Err Name)
    unfolding named
    above h s i o = refused s i o (rw (u, h))

    module _ (h : ltb y.place names ≡ true) where
      below : y.place < names
      below = ltb-true _ _ h

      saves : is_save y ≡ true → Does (Ok (Save y.place))
      unfolding named Applied
      saves k v z vs zs d s i o =
          accepted s i o (rw (u, h, no_return)) _
          (rw (d.0.words, d.0.values, saves_world s w x ws xs y.place vs zs below d.1, k))
        where
          no_return : is_return y ≡ false
          no_return = rw (eqb-true y.kind 10 k)

      module _ (k : is_save y ≡ false) where
        -- a return, for it is no save
        returns : is_return y ≡ true
        returns = ⊎_elim (λ t. not_both t k) (λ t. t) (or_true _ _ u)

        restores : is_saved (get_or ws y.place []) ≡ true → Does (Ok (Return y.place))
        unfolding named Applied
        restores t v z vs zs d s i o =
            accepted s i o (rw (u, h, returns, under)) _ (rw (d.1.words, d.1.values, k, under, restores_world s v z ws xs y.place d.0))
          where
            under : saved_under (machine_of s w x ws xs) y.place ≡ state (world_of s (get_or ws y.place []) (get_or xs y.place []))
            under = saved_at s ws xs y.place below ∙ rw t

        nothing_saved : is_saved (get_or ws y.place []) ≡ false → Does (Err Name)
        unfolding named
        nothing_saved t s i o = refused s i o (rw (u, h, returns, under))
          where
            under : saved_under (machine_of s w x ws xs) y.place ≡ never
            under = saved_at s ws xs y.place below ∙ rw t

    pub does : (r : Result Act Refusal) → r ≡ act_by_name ws y → Does r
    unfolding act_by_name
    does r e =
        subst Does (sym e)
        (cond_keeps Does (ltb y.place names)
        (λ h. cond_keeps Does (is_save y) (saves h) (λ k. cond_keeps Does (is_saved (get_or ws y.place [])) (restores h k) (nothing_saved h k))) above)
