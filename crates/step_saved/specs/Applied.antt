-- What an act, or none, makes of the states.
-- Letters: n a name, w and x the words and values before it, ws and xs those under each name; v, y, vs and ys the same after it.
use Rattle.std.specs.Prelude.{ℕ, ◌<◌, List, [], Option, Some, None, Result, Ok, Err, ◌≡◌, ltb, get_or}
use Rattle.std.proofs.Common.{ltb-true}
use Rattle.laws.specs.Choice.{cond_keeps}
use Rattle.protocol.specs.declared.refusal.Refusal.{Refusal}
use Rattle.protocol.specs.declared.setup.Setup.{Setup}
use Rattle.protocol.specs.declared.step.Answer.{Answer}
use Rattle.protocol.specs.declared.step.Step.{Step}
use Rattle.protocol.specs.Saved.{names, is_save, uses_name}
use Rattle.saved_states.specs.Stored.{Saves, Restores}
use Rattle.state_words.specs.Saved.{is_saved}
use Rattle.step_saved.specs.Plan.{by_one, act_by_name, name_plan, plan_of}
use Rattle.step_saved.specs.declared.plan.Plan.{Plan}
use Rattle.step_saved.specs.declared.plan.Act.{Act}
use Rattle.step_saved.specs.declared.plan.Act.TheVariants.{Save, Return}

-- the name is one of the four
unfoldable pub Fits : Option Act → Type 0
Fits None = Unit {0}
Fits (Some (Save n)) = n < names
Fits (Some (Return n)) = n < names

-- nothing is written here
pub record Same (w x v y : List ℕ) : Type 0 where
  pub words : v ≡ w
  pub values : y ≡ x

pub record SameSaved (ws xs vs ys : List (List ℕ)) : Type 0 where
  pub words : vs ≡ ws
  pub values : ys ≡ xs

unfoldable pub Applied : Option Act → List ℕ → List ℕ → List (List ℕ) → List (List ℕ) → List ℕ → List ℕ → List (List ℕ) → List (List ℕ) → Type 0
Applied None w x ws xs v y vs ys = Same w x v y × SameSaved ws xs vs ys
Applied (Some (Save n)) w x ws xs v y vs ys = Same w x v y × Saves w x ws xs n vs ys
Applied (Some (Return n)) w x ws xs v y vs ys = Restores v y ws xs n × SameSaved ws xs vs ys

-- a plan names one of the four
pub plan_fits : (s : Setup) (a : Answer) (ws : List (List ℕ)) (x : Step) → Fits (plan_of s a ws x).act
unfolding plan_of name_plan Fits
plan_fits s a ws x =
    cond_keeps (λ (p : Plan). Fits p.act) (uses_name x) (λ _.
    cond_keeps (λ (p : Plan). Fits p.act) (by_one a) (λ _. tt) (λ _. named)) (λ _. tt)
  where
    named : Fits (name_plan s ws x).act
    named =
        cond_keeps (λ (p : Plan). Fits p.act) (ltb x.place names) (λ h.
        cond_keeps (λ (p : Plan). Fits p.act) (is_save x) (λ _. ltb-true x.place names h) (λ _.
        cond_keeps (λ (p : Plan). Fits p.act) (is_saved (get_or ws x.place [])) (λ _. ltb-true x.place names h) (λ _. tt))) (λ _. tt)

-- .. and so does the act of a save or a return
abbrev pub ActFits : Result Act Refusal → Type 0
ActFits (Ok a) = Fits (Some a)
ActFits (Err e) = Unit {0}

pub act_fits : (ws : List (List ℕ)) (x : Step) → ActFits (act_by_name ws x)
unfolding act_by_name Fits
act_fits ws x =
    cond_keeps ActFits (ltb x.place names) (λ h.
    cond_keeps ActFits (is_save x) (λ _. ltb-true x.place names h) (λ _.
    cond_keeps ActFits (is_saved (get_or ws x.place [])) (λ _. ltb-true x.place names h) (λ _. tt))) (λ _. tt)
